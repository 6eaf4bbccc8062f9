-- The Bodies among layers, and what is shown of them, without a walk of the expression.

use Rattle.std.specs.Prelude.{ℕ, List, [], ◌∷◌, ◌++◌}
use Rattle.edb_syntax.specs.Syntax.{ModuleTree}
use Rattle.edb_moves.specs.Running.{Info, Run}
use Rattle.edb_stack.specs.Parts.{Layer, operands, frame, scope, caught, tried, waiting, body}
use Rattle.edb_stack.specs.Trees.{outward, enclosed}

-- the Body that a layer closes, with what it stands round
abbrev pub body_at : Layer → Info → Run → List (Info × Run)
body_at (body o) i t = (i, t) ∷ []
body_at _ i t = []

-- the Bodies from the innermost outward, each with what it stands round
unfoldable pub bodies_round : List Layer → Info → Run → List (Info × Run)
bodies_round [] i t = (i, t) ∷ []
bodies_round (l ∷ ls) i t = body_at l i t ++ bodies_round ls (outward l i) (enclosed l i t)

-- the module and version of each Body, innermost first
unfoldable pub modules_of : List Layer → Info → List (ModuleTree × ℕ)
modules_of [] i = (i.home, i.version) ∷ []
modules_of (body o ∷ ls) i = (i.home, i.version) ∷ modules_of ls o
modules_of (scope m ∷ ls) i = modules_of ls (outward (scope m) i)
modules_of (operands o done rest ∷ ls) i = modules_of ls i
modules_of (frame f ∷ ls) i = modules_of ls i
modules_of (caught m ∷ ls) i = modules_of ls i
modules_of (tried m cs hs ∷ ls) i = modules_of ls i
modules_of (waiting m s ∷ ls) i = modules_of ls i
