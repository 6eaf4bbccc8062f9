use Rattle.std.proofs.Common.{◌≡◌, ◌≤◌, drop}
use Rattle.edb_running.specs.Landed.{info_at}
use Rattle.edb_running.specs.Standing.{layers_in, info_in, Holds}
use Rattle.edb_running.proofs.running.Running.unwind.Given as goal

abbrev pub invariant-loop-left : goal.invariant-loop-left
invariant-loop-left l =
    Holds l.self
    × (drop l.left l.self.layers.0 ≡ drop l.fn.count l.fn.self.layers.0)
    × (info_at l.left (layers_in l.self) (info_in l.self) ≡ info_at l.fn.count (layers_in l.fn.self) (info_in l.fn.self))
    × (l.fn.self.layers.1 ≤ l.self.layers.1)

abbrev pub decreases-loop-left : goal.decreases-loop-left
decreases-loop-left l = l.left
