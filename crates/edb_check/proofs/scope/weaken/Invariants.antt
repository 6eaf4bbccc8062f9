use Rattle.std.proofs.Common.{◌≡◌, ◌-◌}
use Rattle.edb_check.proofs.Bindings.{weakened}
use Rattle.edb_check.proofs.scope.weaken.Given as goal

abbrev pub invariant-loop-i : goal.invariant-loop-i
invariant-loop-i l = l.bindings ≡ weakened l.mark (l.i - l.mark) l.initial.bindings
