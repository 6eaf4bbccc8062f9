use Rattle.std.proofs.Common.{◌≡◌, ◌≤◌, length, take}
use Rattle.edb_check.specs.Scopes.{lookup}
use Rattle.edb_check.specs.Views.{scope_of}
use Rattle.edb_check.proofs.scope.find.Given as goal

abbrev pub invariant-loop-end : goal.invariant-loop-end
invariant-loop-end l = record {
  within : l.end ≤ length l.bindings;
  seen : lookup l.name (scope_of (take l.end l.bindings)) ≡ lookup l.name (scope_of l.bindings);
}

abbrev pub decreases-loop-end : goal.decreases-loop-end
decreases-loop-end l = l.end
