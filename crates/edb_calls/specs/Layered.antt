-- The Bodies among layers.

use Rattle.std.specs.Prelude.{ℕ, List, [], ◌∷◌}
use Rattle.edb_syntax.specs.Syntax.{ModuleTree}
use Rattle.edb_stack.specs.Parts.{Layer, operands, frame, scope, caught, tried, waiting, body}

-- the module and version of each layer that is a Body
abbrev pub bodies_in : List Layer → List (ModuleTree × ℕ)
bodies_in [] = []
bodies_in (body o ∷ ls) = (o.home, o.version) ∷ bodies_in ls
bodies_in (scope m ∷ ls) = bodies_in ls
bodies_in (operands o done rest ∷ ls) = bodies_in ls
bodies_in (frame f ∷ ls) = bodies_in ls
bodies_in (caught m ∷ ls) = bodies_in ls
bodies_in (tried m cs hs ∷ ls) = bodies_in ls
bodies_in (waiting m s ∷ ls) = bodies_in ls
