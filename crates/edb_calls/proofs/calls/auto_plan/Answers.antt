use Rattle.std.proofs.Common.{◌≡◌, false, IfOk, codes, length, map, ap, sym, subst, ◌∙◌}
use Rattle.edb_moves.specs.Calls.{is_unshared}
use Rattle.edb_path.specs.Plans.{effect}
use Rattle.edb_calls.proofs.CallLaws.{auto_there, auto_nowhere}
use Rattle.edb_calls.proofs.calls.auto_plan.Goals as goal

pub returns-in_default-clause-effect : goal.returns-in_default-clause-effect
returns-in_default-clause-effect c p v same =
    subst (λ e. IfOk c.fails.result (λ plan. effect p v plan ≡ e))
    (auto_nowhere p (codes "erlang", (c.args.name.now, length c.args.args.now)) (map (λ t. t.now) c.args.args.now)
    (subst (λ f. is_unshared (codes "erlang", (f, length c.args.args.now)) ≡ false) c.as_str.ensures c.in_default.ensures.found))
    (c.fails.ensures.effect p v)

pub returns-then-is_auto-clause-effect : goal.returns-then-is_auto-clause-effect
returns-then-is_auto-clause-effect c p v same =
    subst (λ e. IfOk c.plan.result (λ plan. effect p v plan ≡ e))
    (auto_there p (codes "erlang", (c.args.name.now, length c.args.args.now)) (map (λ t. t.now) c.args.args.now) c.in-Some.built_in
    (c.in-Some.ensures.found ∙ ap (λ f. (codes "erlang", (f, length c.args.args.now))) c.as_str.ensures) c.in-Some.ensures.listed (sym c.is_auto.ensures ∙ c.if-is_auto.true))
    (c.plan.ensures.effect p v same)
