use Rattle.std.proofs.Common.{◌≡◌, ◌-◌, drop, length}
use Rattle.edb_stack.specs.Views.{layers_of}
use Rattle.edb_running.specs.Tails.{is_last}
use Rattle.edb_running.proofs.outward.is_tail.Given as goal

abbrev pub invariant-loop-place : goal.invariant-loop-place
invariant-loop-place l = is_last (layers_of (drop l.place l.layers.0)) ≡ is_last (layers_of l.layers.0)

abbrev pub decreases-loop-place : goal.decreases-loop-place
decreases-loop-place l = length l.layers.0 - l.place
