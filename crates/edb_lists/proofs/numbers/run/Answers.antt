use Rattle.std.proofs.Common.{◌≡◌, ◌∙◌, ap, arith, pos, ◌+ℤ◌, to_z, of_z}
use Rattle.std.specs.Int.{w128}
use Rattle.std.proofs.lemmas.Int.{ints}
use Rattle.edb_lang.specs.Terms.{int}
use Rattle.edb_lists.proofs.Counts.{run_more}
use Rattle.edb_lists.proofs.numbers.run.Goals as goal

pub loop-step-preserved : goal.loop-step-preserved
loop-step-preserved c =
    let next : to_z w128 (of_z w128 (to_z w128 (of_z w128 c.args.from) +ℤ to_z w128 c.loop-step.step)) ≡ to_z w128 (of_z w128 c.args.from) +ℤ pos c.loop-step.step = omega (arith, ints) in
    run_more (to_z w128 (of_z w128 c.args.from)) c.loop-step.step _ _ c.int.result c.loop-step.invariant c.in_ok-push.ensures.items (c.int.ensures ∙ ap int next)
