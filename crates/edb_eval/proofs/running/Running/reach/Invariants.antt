use Rattle.std.proofs.Common.{◌≡◌}
use Rattle.edb_eval.specs.Tree.{tree, work}
use Rattle.edb_eval.proofs.running.Running.reach.Given as goal

abbrev pub invariant-loop-alloc : goal.invariant-loop-alloc
invariant-loop-alloc l = (tree l.self ≡ tree l.initial.self) × (l.self.here ≡ l.initial.self.here)

abbrev pub decreases-loop-alloc : goal.decreases-loop-alloc
decreases-loop-alloc l = work l.self.focus
