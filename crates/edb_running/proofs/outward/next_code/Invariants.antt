use Rattle.std.proofs.Common.{◌≡◌, ◌-◌, drop, length}
use Rattle.edb_running.specs.Rising.{next_code}
use Rattle.edb_running.proofs.outward.next_code.Given as goal

abbrev pub invariant-loop-place : goal.invariant-loop-place
invariant-loop-place l = next_code (drop l.place l.layers.0) ≡ next_code (drop l.depth l.layers.0)

abbrev pub decreases-loop-place : goal.decreases-loop-place
decreases-loop-place l = length l.layers.0 - l.place
