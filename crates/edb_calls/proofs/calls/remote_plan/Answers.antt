use Rattle.std.proofs.Common.{◌≡◌, IfOk, codes, map, ap, subst, ◌∙◌}
use Rattle.edb_moves.specs.Calls.{remote_call}
use Rattle.edb_moves.specs.Going.{if_some}
use Rattle.edb_moves.specs.Raises.{fails}
use Rattle.edb_path.specs.Plans.{effect}
use Rattle.edb_calls.specs.Sites.{spot}
use Rattle.edb_calls.proofs.CallLaws.{target_move}
use Rattle.edb_calls.proofs.calls.remote_plan.Goals as goal

pub returns-in_default-clause-effect : goal.returns-in_default-clause-effect
returns-in_default-clause-effect c v =
    let place = spot c.args.site.now in
    let code = c.args.program.now in
    let current = c.args.versions.now in
    let vs = map (λ t. t.now) c.args.operands.now in
    subst (λ e. IfOk c.fails.result (λ plan. effect place v plan ≡ e))
    (ap (λ o. if_some o (λ t. remote_call code current place t.0 t.1.0 t.1.1) (fails (codes "badarg"))) c.in_default.ensures ∙ target_move code current place vs)
    (c.fails.ensures.effect place v)

pub returns-clause-effect : goal.returns-clause-effect
returns-clause-effect c v =
    let place = spot c.args.site.now in
    let code = c.args.program.now in
    let current = c.args.versions.now in
    let vs = map (λ t. t.now) c.args.operands.now in
    subst (λ e. IfOk c.named_plan.result (λ plan. effect place v plan ≡ e))
    (ap (λ o. if_some o (λ t. remote_call code current place t.0 t.1.0 t.1.1) (fails (codes "badarg"))) c.in-Some.ensures ∙ target_move code current place vs)
    (c.named_plan.ensures.effect v)
