use Rattle.std.proofs.Common.{◌≡◌, IfOk, map, ap, subst, ◌∙◌}
use Rattle.edb_guards.specs.Views.{value_of}
use Rattle.edb_moves.specs.Moves.{operation_move}
use Rattle.edb_path.specs.Plans.{effect}
use Rattle.edb_stack.specs.Redexes.{values_in}
use Rattle.edb_stack.specs.Views.{doing_of}
use Rattle.edb_calls.specs.Sites.{spot}
use Rattle.edb_calls.proofs.Places.{one_place}
use Rattle.edb_calls.proofs.plan.plan_under.Goals as goal

pub returns-clause-effect : goal.returns-clause-effect
returns-clause-effect c p v s =
    let same : map (λ t. t.now) c.deref-2.result.now ≡ values_in c.args.variables.now.pairs c.args.row.now =
    ap (map (λ t. t.now)) c.deref-2.ensures.value ∙ c.in_ok-operands.ensures ∙ ap (map value_of) c.deref.ensures.value ∙ c.in_ok-values.ensures in
    subst (λ q. IfOk c.operation_plan.result (λ plan. effect q v plan ≡ operation_move c.args.program.now c.args.versions.now q (doing_of c.args.doing.now) (values_in c.args.variables.now.pairs c.args.row.now)))
    (one_place c.args.site.now p s)
    (subst (λ vs. IfOk c.operation_plan.result (λ plan. effect (spot c.args.site.now) v plan ≡ operation_move c.args.program.now c.args.versions.now (spot c.args.site.now) (doing_of c.args.doing.now) vs))
    same (c.operation_plan.ensures.effect v))
