-- What is all that is left of the innermost Body.

use Rattle.std.specs.Prelude.{Bool, true, false, List, [], ◌∷◌}
use Rattle.edb_syntax.specs.Syntax as syntax
use Rattle.edb_moves.specs.Running as run
use Rattle.edb_moves.specs.Running.{Frame}
use Rattle.edb_stack.specs.Parts.{Layer, operands, frame, scope, caught, tried, waiting, body}

-- a sequence of which nothing follows passes it on to what it waits for
abbrev pub ends : Frame → Bool
ends (run.sequence l syntax.none) = true
ends _ = false

abbrev pub both : Bool → Bool → Bool
both true b = b
both false b = false

-- whether the hole of these layers is all that is left of the innermost Body
abbrev pub is_last : List Layer → Bool
is_last [] = true
is_last (body o ∷ ls) = true
is_last (frame f ∷ ls) = both (ends f) (is_last ls)
is_last (operands o done rest ∷ ls) = false
is_last (scope m ∷ ls) = false
is_last (caught m ∷ ls) = false
is_last (tried m cs hs ∷ ls) = false
is_last (waiting m s ∷ ls) = false
