-- The lines of a text.

use Rattle.std.specs.Prelude.{ℕ, ◌==◌, cond, List, [], ◌∷◌}

-- a byte more at the head of the first line
abbrev pub onto_first : ℕ → List (List ℕ) → List (List ℕ)
onto_first c [] = (c ∷ []) ∷ []
onto_first c (line ∷ more) = (c ∷ line) ∷ more

-- the byte 10 ends a line and belongs to none; nothing behind the last one is no line
unfoldable pub lines : List ℕ → List (List ℕ)
lines [] = []
lines (c ∷ bytes) = cond (c == 10) ([] ∷ lines bytes) (onto_first c (lines bytes))
