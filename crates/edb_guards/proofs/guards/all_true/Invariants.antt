use Rattle.std.proofs.Common.{◌≡◌, drop}
use Rattle.edb_syntax.specs.Syntax.{exps_of}
use Rattle.edb_moves.specs.Guards.{all_true}
use Rattle.edb_guards.specs.Views.{scope_pairs}
use Rattle.edb_guards.proofs.guards.all_true.Given as goal

-- whether all that are left are true is whether all are
abbrev pub invariant-loop-test : goal.invariant-loop-test
invariant-loop-test l = all_true l.me (scope_pairs l.scope) (exps_of (drop l.test-index l.tests)) ≡ all_true l.me (scope_pairs l.scope) (exps_of l.tests)
