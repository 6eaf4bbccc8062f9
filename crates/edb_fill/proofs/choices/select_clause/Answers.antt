use Rattle.std.proofs.Common.{◌≡◌, IfOk, codes, length, unwrap_or, ap, sym, subst, ◌∙◌}
use Rattle.std.specs.Option.{option_map}
use Rattle.edb_moves.specs.Raises.{fails_with}
use Rattle.edb_path.specs.Plans.{effect}
use Rattle.edb_fill.proofs.choices.select_clause.Goals as goal

pub returns-in-Some-clause-effect : goal.returns-in-Some-clause-effect
returns-in-Some-clause-effect c = λ p em eb.
    let v = c.args.value.now in
    sym (ap (λ o. unwrap_or (option_map (effect p v) o) (fails_with (codes "case_clause") v)) c.in-Some.is) ∙ c.in_ok-plan.ensures.effect p v (fails_with (codes "case_clause") v) em eb

pub returns-in-None-clause-effect : goal.returns-in-None-clause-effect
returns-in-None-clause-effect c = λ p em eb.
    let v = c.args.value.now in
    let none = sym (ap (λ o. unwrap_or (option_map (effect p v) o) (fails_with (codes "case_clause") v)) c.in-None.is) ∙ c.in_ok-plan.ensures.effect p v (fails_with (codes "case_clause") v) em eb in
    subst (λ x. IfOk c.failing_with.result (λ plan. effect p v plan ≡ x)) none (c.failing_with.ensures.effect p v)

pub returns-in-None-clause-suits : goal.returns-in-None-clause-suits
returns-in-None-clause-suits c = c.failing_with.ensures.suits (length c.args.variables.now.pairs)
