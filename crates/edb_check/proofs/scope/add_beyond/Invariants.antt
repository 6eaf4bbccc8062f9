use Rattle.std.proofs.Common.{◌≡◌, ◌++◌, drop}
use Rattle.edb_check.specs.Scopes.{beyond}
use Rattle.edb_check.specs.Views.{scope_of}
use Rattle.edb_check.proofs.scope.add_beyond.Given as goal

abbrev pub invariant-loop-bound : goal.invariant-loop-bound
invariant-loop-bound l = scope_of l.joined.items ++ beyond (scope_of l.first) (scope_of (drop l.bound-index l.second)) ≡ scope_of l.initial.joined.items ++ beyond (scope_of l.first) (scope_of l.second)
