-- Terms: what a value of the language is, how high and how large it is, and the limits of both.

use Rattle.std.specs.Prelude.{ℕ, ℤ, ◌+◌, ◌≤◌, Bool, cond, ◌&&◌, nat_le, max, List, [], ◌∷◌}

-- A term is an integer, an atom, a reference, a fun made by a fun expression (its module, version,
-- place among the module's fun expressions, arity, and the variables that it took along), a fun that
-- names a function (module, name, arity), a pid, a tuple, the empty list, or a list cell.
mutual
  pub data Datum : Type 0 where
    int : ℤ → Datum
    atom : List ℕ → Datum
    reference : ℕ → Datum
    made : List ℕ → ℕ → ℕ → ℕ → Captures → Datum
    named : List ℕ → List ℕ → ℕ → Datum
    pid : ℕ → Datum
    tuple : Datums → Datum
    nil : Datum
    cons : Datum → Datum → Datum

  -- the elements of a tuple
  pub data Datums : Type 0 where
    none : Datums
    more : Datum → Datums → Datums

  -- the variables that a fun took along, each with its value
  pub data Captures : Type 0 where
    uncaptured : Captures
    captured : List ℕ → Datum → Captures → Captures

-- Height: 0 for what has no parts, one for a fun that names a function, and else 1 plus the greatest
-- height of its parts.
abbrev mutual
  pub height : Datum → ℕ
  height (int i) = 0
  height (atom a) = 0
  height (reference r) = 0
  height (made m v i a cs) = captures_height cs + 1
  height (named m f a) = 1
  height (pid p) = 0
  height (tuple ts) = heights ts + 1
  height nil = 0
  height (cons h t) = max (height h) (height t) + 1

  pub heights : Datums → ℕ
  heights none = 0
  heights (more t ts) = max (height t) (heights ts)

  pub captures_height : Captures → ℕ
  captures_height uncaptured = 0
  captures_height (captured x t cs) = max (height t) (captures_height cs)

-- Size: 1 plus the sizes of its parts.
abbrev mutual
  pub size : Datum → ℕ
  size (int i) = 1
  size (atom a) = 1
  size (reference r) = 1
  size (made m v i a cs) = captures_size cs + 1
  size (named m f a) = 1
  size (pid p) = 1
  size (tuple ts) = sizes ts + 1
  size nil = 1
  size (cons h t) = (size h + size t) + 1

  pub sizes : Datums → ℕ
  sizes none = 0
  sizes (more t ts) = size t + sizes ts

  pub captures_size : Captures → ℕ
  captures_size uncaptured = 0
  captures_size (captured x t cs) = size t + captures_size cs

-- The limits: a term is at most 4,000 high and 100,000 large.
abbrev pub most_high : ℕ
most_high = 4000

abbrev pub most_large : ℕ
most_large = 100000

abbrev pub is_within : Datum → Bool
is_within t = nat_le (height t) most_high && nat_le (size t) most_large

pub record IsWithin (t : Datum) : Type 0 where
  pub height : height t ≤ most_high
  pub size : size t ≤ most_large

-- A tuple that the system itself makes round a term has the atom `system_limit` in that term's place
-- where it would pass a limit.
abbrev pub framed : (Datum → Datum) → Datum → Datum
framed round t = cond (is_within (round t)) (round t) (round (atom (115 ∷ 121 ∷ 115 ∷ 116 ∷ 101 ∷ 109 ∷ 95 ∷ 108 ∷ 105 ∷ 109 ∷ 105 ∷ 116 ∷ [])))

-- the elements, one behind the other, as a tuple holds them
abbrev pub of_list : List Datum → Datums
of_list [] = none
of_list (t ∷ ts) = more t (of_list ts)

-- the elements of a list term, up to its end
abbrev pub elements : Datum → List Datum
elements (cons h t) = h ∷ elements t
elements _ = []
