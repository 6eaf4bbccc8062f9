use Rattle.std.proofs.Common.{◌≡◌, length}
use Rattle.edb_running.specs.Standing.{layers_in}
use Rattle.edb_running.specs.Outermost.{beyond}
use Rattle.edb_running.proofs.running.Running.leave_all.Given as goal

abbrev pub invariant-loop-layer : goal.invariant-loop-layer
invariant-loop-layer l = (beyond (layers_in l.self) ≡ beyond (layers_in l.fn.self)) × (l.self.here ≡ l.fn.self.here) × (l.self.bodies ≡ l.fn.self.bodies)

abbrev pub decreases-loop-layer : goal.decreases-loop-layer
decreases-loop-layer l = length l.self.layers.0
