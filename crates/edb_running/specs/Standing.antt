-- The expression for which a machine's parts stand, and what holds of them between moves.

use Rattle.std.specs.Prelude.{◌≡◌, List, length}
use Rattle.edb_lang.specs.Pairs.{Pairs}
use Rattle.edb_moves.specs.Running.{Info, Run}
use Rattle.edb_stack.specs.Parts as parts
use Rattle.edb_stack.specs.Trees.{plug}
use Rattle.edb_stack.specs.Marks.{Marked}
use Rattle.edb_stack.specs.Bodies.{modules_of}
use Rattle.edb_stack.specs.Views.{info_of, layers_of}
use Rattle.edb_stack.specs.Redexes.{redex_tree}
use Rattle.edb_stack.specs.Paths.{IsFilled, RedexBelow}
use Rattle.edb_running.specs.declared.running.Running.{Running}

-- the layers, the innermost Body, and its bindings
abbrev pub layers_in : Running → List parts.Layer
layers_in r = layers_of r.layers.0

abbrev pub info_in : Running → Info
info_in r = info_of r.here

abbrev pub pairs_in : Running → Pairs
pairs_in r = r.here.variables.pairs

-- the expression
abbrev pub tree_in : Running → Run
tree_in r = plug (layers_in r) (info_in r) (redex_tree (pairs_in r) r.redex)

-- Layers whose marks are among the pairs, with as many Bodies as are counted.
pub record Holds (r : Running) : Type 0 where
  pub marked : Marked (layers_in r) (length (pairs_in r))
  pub depth : r.bodies ≡ length (modules_of (layers_in r) (info_in r))

-- The whole of it, between moves.
pub record Sound (r : Running) : Type 0 where
  pub holds : Holds r
  pub below : RedexBelow (length (pairs_in r)) r.redex
  pub filled : IsFilled (layers_in r) r.redex
