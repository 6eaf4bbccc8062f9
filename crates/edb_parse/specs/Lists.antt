-- Lists of trees from the items of a list.

use Rattle.std.specs.Prelude.{List, [], ◌∷◌}

abbrev pub gather : {A L : Type 0} → (A → L → L) → L → List A → L
gather cons nil [] = nil
gather cons nil (a ∷ xs) = cons a (gather cons nil xs)
