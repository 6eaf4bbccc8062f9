use Rattle.std.proofs.Common.{◌≡◌, ◌++◌, map, drop}
use Rattle.edb_check.specs.Scopes.{weaken}
use Rattle.edb_check.specs.Views.{scope_of}
use Rattle.edb_check.proofs.scope.weakened.Given as goal

abbrev pub invariant-loop-bound : goal.invariant-loop-bound
invariant-loop-bound l = scope_of l.joined.items ++ map (weaken (scope_of l.second)) (scope_of (drop l.bound-index l.first)) ≡ map (weaken (scope_of l.second)) (scope_of l.first)
