use Rattle.std.proofs.Common.{◌≡◌, ◌++◌, drop, map}
use Rattle.std.specs.Option.{option_map}
use Rattle.edb_syntax.specs.Syntax.{exps_of}
use Rattle.edb_moves.specs.Guards.{test_values}
use Rattle.edb_guards.specs.Views.{scope_pairs, value_of}
use Rattle.edb_guards.proofs.evaluate.+evaluating.Given as goal

-- the values so far and those of the tests that are left are those of all
abbrev pub invariant-test_values-loop-test : goal.invariant-test_values-loop-test
invariant-test_values-loop-test l = option_map (λ vs. map value_of l.values.items ++ vs) (test_values l.me (scope_pairs l.scope) (exps_of (drop l.test-index l.tests))) ≡ test_values l.me (scope_pairs l.scope) (exps_of l.tests)
