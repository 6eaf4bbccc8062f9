use Rattle.std.proofs.Common.{◌≡◌, ◌≤◌, ◌-◌, drop, length}
use Rattle.edb_moves.specs.Running.{Info}
use Rattle.edb_stack.specs.Views.{layers_of}
use Rattle.edb_running.specs.Landed.{stood}
use Rattle.edb_running.proofs.LandedLaws.{Reached}
use Rattle.edb_running.proofs.landing.find_landing.Given as goal

abbrev pub invariant-loop-place : goal.invariant-loop-place
invariant-loop-place l =
    (l.fn.offset ≤ l.place)
    × ((i : Info) → i.bindings ≡ stood l.fn.stand → Reached l.fn.me l.fn.raise (layers_of (drop l.fn.offset l.fn.layers.0)) i (l.place - l.fn.offset) (layers_of (drop l.place l.fn.layers.0)) (stood l.stand))

abbrev pub decreases-loop-place : goal.decreases-loop-place
decreases-loop-place l = length l.fn.layers.0 - l.place
