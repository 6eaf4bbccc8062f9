-- Layers that wait for the value of code.

use Rattle.std.specs.Prelude.{◌≡◌, true, List, [], ◌∷◌, Option, None, Some}
use Rattle.edb_lang.specs.Terms.{Datum}
use Rattle.edb_stack.specs.Parts.{Layer}
use Rattle.edb_stack.specs.Paths.{waits}

-- the innermost of them waits for one value, which fills it
abbrev pub Waits : List Layer → Type 0
Waits [] = ⊥
Waits (l ∷ ls) = waits l ≡ true

-- Code may stand within layers: where it is a value, the innermost waits for it.
abbrev pub MayStand : List Layer → Option Datum → Type 0
MayStand ls None = Unit {0}
MayStand ls (Some v) = Waits ls
