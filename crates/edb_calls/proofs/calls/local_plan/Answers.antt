use Rattle.std.proofs.Common.{◌≡◌, IfOk, map, sym, subst}
use Rattle.edb_moves.specs.Calls.{local_call}
use Rattle.edb_path.specs.Plans.{effect}
use Rattle.edb_calls.specs.Sites.{spot}
use Rattle.edb_calls.proofs.Scans.{bodies_here}
use Rattle.edb_calls.proofs.calls.local_plan.Goals as goal

pub returns-in-Some-clause-effect : goal.returns-in-Some-clause-effect
returns-in-Some-clause-effect c v =
    let place = spot c.args.site.now in
    let vs = map (λ t. t.now) c.args.args.now in
    subst (λ bs. IfOk c.own_plan.result (λ plan. effect place v plan ≡ local_call place bs c.args.name.now vs))
    (sym (bodies_here c.args.site.now c.in-Some.body c.in-Some.is))
    (c.own_plan.ensures.effect v)
