-- A binding that is looked for in one walk over the list.

use Rattle.std.proofs.Common.{◌≡◌, ◌≢◌, ℕ, Bool, true, false, List, [], ◌∷◌, cond, codes, find, Option, None, Some, Ok, refl, sym, ap, ◌∙◌}
use Rattle.std.specs.Option.{option_and_then, option_map, option_map_or}
use Rattle.edb_lang.specs.Terms.{Datum, atom, tuple, nil, cons, int, reference, made, named, pid, of_list}
use Rattle.edb_lang.specs.ListTerms.{elements_of}
use Rattle.edb_lang.specs.TermText.{same_name}
use Rattle.edb_pure.specs.Answers.{given, limited_answer}
use Rattle.edb_pure.specs.Lists.{each, pair}
use Rattle.edb_pure.specs.Lookups.{binding_of, get_binding}
use Rattle.edb_values.specs.Found.{first_of, found_from, value_answer}

-- the value of the first pair with the name, after what was found before
abbrev pub in_pairs : Option Datum → List ℕ → List (List ℕ × Datum) → Option Datum
in_pairs found x [] = found
in_pairs found x (p ∷ ps) = in_pairs (first_of found (same_name x p.0) p.1) x ps

-- the pairs of a list
abbrev pub pairs_in : Datum → Option (List (List ℕ × Datum))
pairs_in t = option_and_then (each binding_of) (elements_of t)

-- once something is found it stays
found_stays : (v : Datum) (x : List ℕ) (ps : List (List ℕ × Datum)) → in_pairs (Some v) x ps ≡ Some v
found_stays v x [] = refl
found_stays v x (p ∷ ps) = found_stays v x ps

-- the pairs of a list, from the first element on
each_cell : (b : Option (List ℕ × Datum)) (qs : Option (List (List ℕ × Datum))) (found : Option Datum) (x : List ℕ)
    → option_and_then (λ p. option_map (in_pairs (first_of found (same_name x p.0) p.1) x) qs) b
    ≡ option_map (in_pairs found x) (option_and_then (λ y. option_map (λ ys. y ∷ ys) qs) b)
each_cell None qs found x = refl
each_cell (Some p) None found x = refl
each_cell (Some p) (Some ps) found x = refl

-- elements, and the pairs that they are
pairs_cell : (h : Datum) (es : Option (List Datum))
    → option_and_then (each binding_of) (option_map (λ ts. h ∷ ts) es)
    ≡ option_and_then (λ y. option_map (λ ys. y ∷ ys) (option_and_then (each binding_of) es)) (binding_of h)
pairs_cell h (Some ts) = refl
pairs_cell h None = nothing (binding_of h)
  where
    nothing : (b : Option (List ℕ × Datum)) → ◌≡◌ {A = Option (List (List ℕ × Datum))} None (option_and_then (λ y. None) b)
    nothing None = refl
    nothing (Some y) = refl

-- the same of any answer to what is left
walk_cell : (found : Option Datum) (x : List ℕ) (t : Datum) (b : Option (List ℕ × Datum)) → ((f : Option Datum) → found_from f x t ≡ option_map (in_pairs f x) (pairs_in t))
    → option_and_then (λ p. found_from (first_of found (same_name x p.0) p.1) x t) b
    ≡ option_and_then (λ p. option_map (in_pairs (first_of found (same_name x p.0) p.1) x) (pairs_in t)) b
walk_cell found x t None same = refl
walk_cell found x t (Some p) same = same (first_of found (same_name x p.0) p.1)

-- the walk by pairs is the walk over the list
pub walk : (found : Option Datum) (x : List ℕ) (t : Datum) → found_from found x t ≡ option_map (in_pairs found x) (pairs_in t)
walk found x nil = refl
walk found x (cons h t) =
    walk_cell found x t (binding_of h) (λ f. walk f x t) ∙ each_cell (binding_of h) (pairs_in t) found x
    ∙ ap (option_map (in_pairs found x)) (sym (pairs_cell h (elements_of t)))
walk found x (int i) = refl
walk found x (atom a) = refl
walk found x (reference r) = refl
walk found x (made m v i a cs) = refl
walk found x (named m f a) = refl
walk found x (pid p) = refl
walk found x (tuple ts) = refl

-- what is found is the value of the first pair with the name
found_first : (x : List ℕ) (ps : List (List ℕ × Datum)) → in_pairs None x ps ≡ option_map (λ p. p.1) (find (λ p. same_name x p.0) ps)
found_first x [] = refl
found_first x (p ∷ ps) = by (same_name x p.0) (found_first x ps)
  where
    by : (b : Bool) → in_pairs None x ps ≡ option_map (λ q. q.1) (find (λ q. same_name x q.0) ps)
        → in_pairs (first_of None b p.1) x ps ≡ option_map (λ q. q.1) (cond b (Some p) (find (λ q. same_name x q.0) ps))
    by true rest = found_stays p.1 x ps
    by false rest = rest

-- and its answer
answer_first : (o : Option (List ℕ × Datum)) → value_answer (option_map (λ p. p.1) o) ≡ option_map_or (λ p. limited_answer (pair (atom (codes "value")) p.1)) o (Ok (atom (codes "unbound")))
answer_first None = refl
answer_first (Some p) = refl

-- the row, by the walk over the list
pub binding_row : (x : List ℕ) (t : Datum) → given (found_from None x t) value_answer ≡ get_binding (atom x) t
binding_row x t = ap (λ o. given o value_answer) (walk None x t) ∙ of_pairs (pairs_in t)
  where
    of_pairs : (qs : Option (List (List ℕ × Datum)))
        → given (option_map (in_pairs None x) qs) value_answer
        ≡ given qs (λ ps. option_map_or (λ p. limited_answer (pair (atom (codes "value")) p.1)) (find (λ p. same_name x p.0) ps) (Ok (atom (codes "unbound"))))
    of_pairs None = refl
    of_pairs (Some ps) = ap value_answer (found_first x ps) ∙ answer_first (find (λ p. same_name x p.0) ps)

-- a tuple of more than two elements is no binding
pub longer : (x : List ℕ) (v : Datum) (ts : List Datum) → ts ≢ [] → None ≡ binding_of (tuple (of_list (atom x ∷ v ∷ ts)))
longer x v [] some = absurd (some refl)
longer x v (t ∷ ts) some = refl
