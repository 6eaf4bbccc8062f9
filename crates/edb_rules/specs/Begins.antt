-- How one list begins another.

use Rattle.std.specs.Prelude.{◌≡◌, List, ◌++◌}

-- the first of two lists, of entries, of labels or of what was printed, is the second up to some place
abbrev pub IsBeginning : {A : Type 0} → List A → List A → Type 0
IsBeginning {A} xs ys = (rest : List A) × (xs ++ rest ≡ ys)
