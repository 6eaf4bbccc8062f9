use Rattle.std.proofs.Common.{◌≡◌, IfOk, map, sym, subst}
use Rattle.edb_moves.specs.Moves.{operation_move}
use Rattle.edb_path.specs.Plans.{effect}
use Rattle.edb_stack.specs.Views.{doing_of}
use Rattle.edb_calls.specs.Sites.{spot}
use Rattle.edb_calls.proofs.plan.operation_plan.Goals as goal

pub returns-in-CallIn-clause-effect : goal.returns-in-CallIn-clause-effect
returns-in-CallIn-clause-effect c v =
    let place = spot c.args.site.now in
    subst (λ d. IfOk c.own_plan.result (λ plan. effect place v plan ≡ operation_move c.args.program.now c.args.versions.now place (doing_of d) (map (λ t. t.now) c.args.operands.now)))
    (sym c.in-CallIn.is) (c.own_plan.ensures.effect v)

pub returns-in-FunCall-clause-effect : goal.returns-in-FunCall-clause-effect
returns-in-FunCall-clause-effect c v =
    let place = spot c.args.site.now in
    subst (λ d. IfOk c.fun_plan.result (λ plan. effect place v plan ≡ operation_move c.args.program.now c.args.versions.now place (doing_of d) (map (λ t. t.now) c.args.operands.now)))
    (sym c.in-FunCall.is) (c.fun_plan.ensures.effect c.args.versions.now v)
