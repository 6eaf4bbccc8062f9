use Rattle.std.proofs.Common.{ap, sym, ◌∙◌}
use Rattle.std.specs.Option.{option_map}
use Rattle.edb_syntax.specs.Syntax.{exps_of}
use Rattle.edb_moves.specs.Guards.{test_values}
use Rattle.edb_guards.specs.Views.{scope_pairs, value_of}
use Rattle.edb_guards.proofs.ValueLaws.{values-next}
use Rattle.edb_guards.proofs.evaluate.+evaluating.Goals as goal

pub test_values-loop-test-preserved : goal.test_values-loop-test-preserved
test_values-loop-test-preserved t c =
    let me = c.args.me in
    let bs = scope_pairs c.args.scope.now in
    let tests = c.args.tests.now in
    let value = sym (ap (option_map value_of) c.in-Some.is) ∙ c.in_ok-value.ensures in
    values-next me bs tests c.loop-test.values.items c.push.new.self.items c.loop-test.test-index c.test-item.result c.in-Some.value (test_values me bs (exps_of tests))
    c.loop-test-test.true c.test-item.is value c.in_ok-push.ensures.items c.loop-test.invariant
