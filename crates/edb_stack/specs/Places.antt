-- What layers make of the place of their hole, and of what a redex there answers.

use Rattle.std.specs.Prelude.{List, [], ◌∷◌}
use Rattle.edb_variables.specs.PairStacks.{oldest}
use Rattle.edb_moves.specs.Running as run
use Rattle.edb_moves.specs.Running.{Info, Run, node, more, all_running}
use Rattle.edb_moves.specs.Going.{Place, operand, inside, within_body, Effect, within, passes, closed}
use Rattle.edb_stack.specs.Parts.{Layer, operands, frame, scope, caught, tried, waiting, body}
use Rattle.edb_stack.specs.Trees.{before, outward}

-- the place within a layer, by that outside of it
abbrev pub within_layer : Layer → Info → Place → Place
within_layer (operands o done rest) i p = operand p
within_layer (frame f) i p = inside f p
within_layer (scope m) i p = inside (run.scope i.bindings) p
within_layer (caught m) i p = inside (run.caught (oldest m i.bindings)) p
within_layer (tried m cs hs) i p = inside (run.tried (oldest m i.bindings) cs hs) p
within_layer (waiting m s) i p = inside (run.waiting (oldest m i.bindings) s) p
within_layer (body o) i p = within_body i p

-- the place of the hole, `p` being outside of all
unfoldable pub place : Place → List Layer → Info → Place
place p [] i = within_body i p
place p (l ∷ ls) i = within_layer l i (place p ls (outward l i))

-- an answer, taken out through a layer
abbrev pub through : Layer → Info → Place → Effect Run → Effect Run
through (operands o done rest) i p e = within (λ t. node o (before i.bindings done (more t (all_running rest)))) e
through (frame f) i p e = passes f p e
through (scope m) i p e = passes (run.scope i.bindings) p e
through (caught m) i p e = passes (run.caught (oldest m i.bindings)) p e
through (tried m cs hs) i p e = passes (run.tried (oldest m i.bindings) cs hs) p e
through (waiting m s) i p e = passes (run.waiting (oldest m i.bindings) s) p e
through (body o) i p e = closed p i e

-- an answer, taken out through all layers
unfoldable pub out : Place → List Layer → Info → Effect Run → Effect Run
out p [] i e = closed p i e
out p (l ∷ ls) i e = out p ls (outward l i) (through l i (place p ls (outward l i)) e)
