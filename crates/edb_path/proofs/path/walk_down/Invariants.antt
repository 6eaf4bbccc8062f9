use Rattle.std.proofs.Common.{◌≡◌, ℕ, reverse}
use Rattle.edb_lang.specs.Pairs.{Pairs}
use Rattle.edb_syntax.specs.Sizes.{size}
use Rattle.edb_moves.specs.Running.{value_of, running}
use Rattle.edb_stack.specs.Paths.{outer, wrapped, Fit}
use Rattle.edb_stack.specs.Views.{layers_of}
use Rattle.edb_path.specs.Waiting.{MayStand}
use Rattle.edb_path.proofs.path.walk_down.Given as goal

abbrev pub invariant-loop-layers : goal.invariant-loop-layers
invariant-loop-layers l =
    MayStand (layers_of (reverse l.layers.items)) (value_of (running l.part))
    × ((bs : Pairs) → wrapped (layers_of (reverse l.layers.items)) bs (running l.part) ≡ wrapped (layers_of (reverse l.fn.layers.items)) bs (running l.fn.code))
    × ((k n : ℕ) → Fit k n (layers_of (reverse l.fn.layers.items)) → Fit k n (layers_of (reverse l.layers.items)))
    × ((bs : Pairs) → outer (layers_of (reverse l.layers.items)) bs ≡ outer (layers_of (reverse l.fn.layers.items)) bs)

abbrev pub decreases-loop-layers : goal.decreases-loop-layers
decreases-loop-layers l = size l.part
