use Rattle.std.proofs.Common.{◌≡◌, false, IfOk, refl, length, map, ap, sym, subst, ◌∙◌}
use Rattle.std.proofs.lemmas.List.{length-map}
use Rattle.edb_moves.specs.Calls.{is_unshared}
use Rattle.edb_path.specs.Plans.{effect}
use Rattle.edb_calls.specs.Sites.{spot}
use Rattle.edb_calls.proofs.CallLaws.{remote_there, remote_past}
use Rattle.edb_calls.proofs.calls.named_plan.Goals as goal

pub returns-in-Some-clause-effect : goal.returns-in-Some-clause-effect
returns-in-Some-clause-effect c v =
    let place = spot c.args.site.now in
    let vs = map (λ t. t.now) c.args.args.now in
    subst (λ e. IfOk c.plan.result (λ plan. effect place v plan ≡ e))
    (remote_there c.args.program.now c.args.versions.now place c.args.home.now c.args.name.now (length c.args.args.now) vs c.in-Some.built_in (sym (length-map c.args.args.now (λ t. t.now)))
    (c.in-Some.ensures.found ∙ ap (λ m. (m, (c.as_str-2.result.now, length c.args.args.now))) c.as_str.ensures ∙ ap (λ f. (c.args.home.now, (f, length c.args.args.now))) c.as_str-2.ensures) c.in-Some.ensures.listed)
    (c.plan.ensures.effect place v refl)

pub returns-in-None-clause-effect : goal.returns-in-None-clause-effect
returns-in-None-clause-effect c v =
    let place = spot c.args.site.now in
    let vs = map (λ t. t.now) c.args.args.now in
    subst (λ e. IfOk c.exported_plan.result (λ plan. effect place v plan ≡ e))
    (remote_past c.args.program.now c.args.versions.now place c.args.home.now c.args.name.now (length c.args.args.now) vs (sym (length-map c.args.args.now (λ t. t.now)))
    (subst (λ f. is_unshared (c.args.home.now, (f, length c.args.args.now)) ≡ false) c.as_str-2.ensures
    (subst (λ m. is_unshared (m, (c.as_str-2.result.now, length c.args.args.now)) ≡ false) c.as_str.ensures c.in-None.ensures.found)))
    (c.exported_plan.ensures.effect v)
