use Rattle.std.proofs.Common.{◌≡◌, IfOk, refl, length, map, sym, subst}
use Rattle.std.proofs.lemmas.List.{length-map}
use Rattle.edb_path.specs.Plans.{effect}
use Rattle.edb_calls.specs.Sites.{spot}
use Rattle.edb_calls.proofs.CallLaws.{own_else}
use Rattle.edb_calls.proofs.calls.own_plan.Goals as goal

pub returns-in-None-clause-effect : goal.returns-in-None-clause-effect
returns-in-None-clause-effect c v =
    let place = spot c.args.site.now in
    let vs = map (λ t. t.now) c.args.args.now in
    subst (λ e. IfOk c.auto_plan.result (λ plan. effect place v plan ≡ e))
    (own_else place c.args.unit.now c.args.version c.args.name.now (length c.args.args.now) vs (sym (length-map c.args.args.now (λ t. t.now))) c.in-None.ensures)
    (c.auto_plan.ensures.effect place v refl)
