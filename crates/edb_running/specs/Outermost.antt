-- The layers outside of the innermost Body.

use Rattle.std.specs.Prelude.{List, [], ◌∷◌}
use Rattle.edb_stack.specs.Parts.{Layer, operands, frame, scope, caught, tried, waiting, body}

-- from the innermost Body's end on
abbrev pub beyond : List Layer → List Layer
beyond [] = []
beyond (body o ∷ ls) = body o ∷ ls
beyond (operands o done rest ∷ ls) = beyond ls
beyond (frame f ∷ ls) = beyond ls
beyond (scope m ∷ ls) = beyond ls
beyond (caught m ∷ ls) = beyond ls
beyond (tried m cs hs ∷ ls) = beyond ls
beyond (waiting m s ∷ ls) = beyond ls
