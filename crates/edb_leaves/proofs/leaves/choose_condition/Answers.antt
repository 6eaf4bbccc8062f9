use Rattle.std.proofs.Common.{◌≡◌, IfOk, codes, length, unwrap_or, ap, sym, subst, ◌∙◌}
use Rattle.std.specs.Option.{option_map}
use Rattle.edb_moves.specs.Raises.{fails}
use Rattle.edb_path.specs.Plans.{effect}
use Rattle.edb_leaves.proofs.leaves.choose_condition.Goals as goal

pub returns-in-Some-clause-effect : goal.returns-in-Some-clause-effect
returns-in-Some-clause-effect c = λ p v em eb.
    sym (ap (λ o. unwrap_or (option_map (effect p v) o) (fails (codes "if_clause"))) c.in-Some.is) ∙ c.in_ok-plan.ensures.effect p v (fails (codes "if_clause")) em eb

pub returns-in-None-clause-effect : goal.returns-in-None-clause-effect
returns-in-None-clause-effect c = λ p v em eb.
    let none = sym (ap (λ o. unwrap_or (option_map (effect p v) o) (fails (codes "if_clause"))) c.in-None.is) ∙ c.in_ok-plan.ensures.effect p v (fails (codes "if_clause")) em eb in
    subst (λ x. IfOk c.failing.result (λ plan. effect p v plan ≡ x)) none (c.failing.ensures.effect p v)

pub returns-in-None-clause-suits : goal.returns-in-None-clause-suits
returns-in-None-clause-suits c = c.failing.ensures.suits (length c.args.variables.now.pairs)
