use Rattle.std.proofs.Common.{◌≡◌, IfOk, map, sym, subst}
use Rattle.edb_moves.specs.Moves.{operation_move}
use Rattle.edb_moves.specs.Running.{written}
use Rattle.edb_path.specs.Plans.{effect}
use Rattle.edb_syntax.specs.declared.operation.Operation.TheVariants.{FunCall}
use Rattle.edb_calls.specs.Sites.{spot}
use Rattle.edb_calls.proofs.funs.fun_plan.Goals as goal

pub returns-in-Some-clause-effect : goal.returns-in-Some-clause-effect
returns-in-Some-clause-effect c current v =
    let place = spot c.args.site.now in
    subst (λ ts. IfOk c.call_term.result (λ plan. effect place v plan ≡ operation_move c.args.program.now current place (written FunCall) (map (λ t. t.now) ts)))
    (sym c.in-Some.ensures.cases.0) (c.call_term.ensures.effect v)
