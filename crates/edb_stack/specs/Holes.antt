-- The hole in which the redex stands. Where a value fills the innermost layer, that layer and the value are the redex, and the
-- hole is that of the layers round it.

use Rattle.std.specs.Prelude.{List, [], ◌∷◌}
use Rattle.edb_moves.specs.Running.{Info}
use Rattle.edb_moves.specs.Going as go
use Rattle.edb_moves.specs.Going.{at, apply, filled, finished}
use Rattle.edb_stack.specs.Parts.{Layer}
use Rattle.edb_stack.specs.Trees.{outward}
use Rattle.edb_stack.specs.Views.{doing_of, leaf_of}
use Rattle.edb_stack.specs.Redexes.{value_in, values_in}
use Rattle.edb_stack.specs.Paths.{frame_of}
use Rattle.edb_stack.specs.declared.redex.Redex.{Redex}
use Rattle.edb_stack.specs.declared.redex.Redex.TheVariants.{Leaf, Apply, Value}

-- the layers round the hole
abbrev pub hole_layers : List Layer → Redex → List Layer
hole_layers ls (Leaf l) = ls
hole_layers ls (Apply o xs) = ls
hole_layers [] (Value x) = []
hole_layers (l ∷ ls) (Value x) = ls

-- the innermost Body, as the hole sees it
abbrev pub hole_info : List Layer → Info → Redex → Info
hole_info ls i (Leaf l) = i
hole_info ls i (Apply o xs) = i
hole_info [] i (Value x) = i
hole_info (l ∷ ls) i (Value x) = outward l i

-- what stands there
abbrev pub at_hole : List Layer → Info → Redex → go.Redex
at_hole ls i (Leaf l) = at (leaf_of l)
at_hole ls i (Apply o xs) = apply (doing_of o) (values_in i.bindings xs.items)
at_hole [] i (Value x) = finished
at_hole (l ∷ ls) i (Value x) = filled (frame_of i.bindings l) (value_in i.bindings x)
