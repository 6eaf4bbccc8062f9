-- Sorting: a list in ascending order, in which what is equal stays in its order.

use Rattle.std.specs.Prelude.{Bool, if◌then◌else◌, List, [], ◌∷◌}
use Rattle.std.specs.Ordering.{is_lt}
use Rattle.edb_lang.specs.Terms.{Datum}
use Rattle.edb_lang.specs.Order.{term_cmp}

-- an element at its place in a list that ascends: after those that are below it, and before its equals
abbrev pub insert_in_order : {A : Type 0} → (A → A → Bool) → A → List A → List A
insert_in_order below x [] = x ∷ []
insert_in_order below x (y ∷ ys) = if below y x then y ∷ insert_in_order below x ys else x ∷ (y ∷ ys)

-- the elements in order
abbrev pub sorted : {A : Type 0} → (A → A → Bool) → List A → List A
sorted below [] = []
sorted below (x ∷ xs) = insert_in_order below x (sorted below xs)

-- the order of terms, as a test
abbrev pub is_below : Datum → Datum → Bool
is_below a b = is_lt (term_cmp a b)
