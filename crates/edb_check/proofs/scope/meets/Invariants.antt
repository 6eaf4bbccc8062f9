use Rattle.std.proofs.Common.{◌≡◌, drop}
use Rattle.edb_check.specs.Scopes.{meets}
use Rattle.edb_check.specs.Views.{scope_of, names_of}
use Rattle.edb_check.proofs.scope.meets.Given as goal

abbrev pub invariant-loop-name : goal.invariant-loop-name
invariant-loop-name l = meets (scope_of l.bindings) (names_of (drop l.name-index l.names)) ≡ meets (scope_of l.bindings) (names_of l.names)
