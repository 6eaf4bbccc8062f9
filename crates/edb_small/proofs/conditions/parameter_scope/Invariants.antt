use Rattle.std.proofs.Common.{length}
use Rattle.edb_small.proofs.Names.{Bound}
use Rattle.edb_small.proofs.conditions.parameter_scope.Given as goal

-- the parameters behind those that are left are bound
abbrev pub invariant-loop-last : goal.invariant-loop-last
invariant-loop-last l = Bound l.parameters l.rest l.scope

abbrev pub decreases-loop-last : goal.decreases-loop-last
decreases-loop-last l = length l.rest
