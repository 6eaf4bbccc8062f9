-- The order of terms: number, atom, reference, fun, pid, tuple, nil, list.

use Rattle.std.specs.Prelude.{ℕ, ◌+◌}
use Rattle.std.specs.declared.cmp.Ordering.{Ordering}
use Rattle.std.specs.declared.cmp.Ordering.TheVariants.{Less, Equal, Greater}
use Rattle.std.specs.Ordering.{nat_cmp, int_cmp, ordering_then}
use Rattle.std.specs.Cmp.Lexicographic.{slice_cmp}
use Rattle.edb_lang.specs.Terms.{Datum, int, atom, reference, made, named, pid, tuple, nil, cons, Datums, none, more, Captures, uncaptured, captured}

-- the place of a term's kind; funs that were made come before those that name a function
abbrev pub rank : Datum → ℕ
rank (int i) = 0
rank (atom a) = 1
rank (reference r) = 2
rank (made m v i a cs) = 3
rank (named m f a) = 4
rank (pid p) = 5
rank (tuple ts) = 6
rank nil = 7
rank (cons h t) = 8

-- how many elements a tuple has
abbrev pub count : Datums → ℕ
count none = 0
count (more t ts) = count ts + 1

-- Integers compare by value, atoms by their bytes, references and pids by number; made funs by module,
-- version, place, arity and then what they took along, named ones by module, name and arity; tuples
-- by size and then element by element; lists element by element.
abbrev mutual
  pub term_cmp : Datum → Datum → Ordering
  term_cmp (int i) (int j) = int_cmp i j
  term_cmp (atom a) (atom b) = slice_cmp nat_cmp a b
  term_cmp (reference r) (reference s) = nat_cmp r s
  term_cmp (made m v i a cs) (made n w j b ds) =
      ordering_then (slice_cmp nat_cmp m n)
      (ordering_then (nat_cmp v w) (ordering_then (nat_cmp i j) (ordering_then (nat_cmp a b) (captures_cmp cs ds))))
  term_cmp (named m f a) (named n g b) =
      ordering_then (slice_cmp nat_cmp m n) (ordering_then (slice_cmp nat_cmp f g) (nat_cmp a b))
  term_cmp (pid p) (pid q) = nat_cmp p q
  term_cmp (tuple xs) (tuple ys) = ordering_then (nat_cmp (count xs) (count ys)) (terms_cmp xs ys)
  term_cmp nil nil = Equal
  term_cmp (cons h t) (cons g u) = ordering_then (term_cmp h g) (term_cmp t u)
  term_cmp x y = nat_cmp (rank x) (rank y)

  -- elements one by one; both have as many
  pub terms_cmp : Datums → Datums → Ordering
  terms_cmp (more x xs) (more y ys) = ordering_then (term_cmp x y) (terms_cmp xs ys)
  terms_cmp _ _ = Equal

  -- name, then value; where one list begins the other, the shorter one is first
  pub captures_cmp : Captures → Captures → Ordering
  captures_cmp uncaptured uncaptured = Equal
  captures_cmp uncaptured (captured y u ds) = Less
  captures_cmp (captured x t cs) uncaptured = Greater
  captures_cmp (captured x t cs) (captured y u ds) =
      ordering_then (slice_cmp nat_cmp x y) (ordering_then (term_cmp t u) (captures_cmp cs ds))
