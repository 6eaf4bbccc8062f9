use Rattle.std.proofs.Common.{◌≡◌, [], IfOk, codes, length, unwrap_or, ap, sym, subst, ◌∙◌}
use Rattle.std.specs.Option.{option_map}
use Rattle.edb_moves.specs.Raises.{fails_with}
use Rattle.edb_path.specs.Plans.{effect}
use Rattle.edb_fill.proofs.FillLaws.{not_empty, try_chooses}
use Rattle.edb_fill.proofs.choices.end_try.Goals as goal

pub returns-then-is_empty-clause-suits : goal.returns-then-is_empty-clause-suits
returns-then-is_empty-clause-suits c = c.pass.ensures.suits (length c.args.variables.now.pairs)

pub returns-in-Some-clause-effect : goal.returns-in-Some-clause-effect
returns-in-Some-clause-effect c = λ p kept hs em eb.
    let v = c.args.value.now in
    let some : c.args.clauses.now ≡ [] → ⊥ = not_empty c.args.clauses.now c.is_empty.result c.is_empty.ensures c.if-is_empty.false in
    sym (ap (λ o. unwrap_or (option_map (effect p v) o) (fails_with (codes "try_clause") v)) c.in-Some.is) ∙ c.in_ok-plan.ensures.effect p v (fails_with (codes "try_clause") v) em eb
    ∙ try_chooses p kept c.args.clauses.now hs v some

pub returns-in-None-clause-effect : goal.returns-in-None-clause-effect
returns-in-None-clause-effect c = λ p kept hs em eb.
    let v = c.args.value.now in
    let some : c.args.clauses.now ≡ [] → ⊥ = not_empty c.args.clauses.now c.is_empty.result c.is_empty.ensures c.if-is_empty.false in
    let none = sym (ap (λ o. unwrap_or (option_map (effect p v) o) (fails_with (codes "try_clause") v)) c.in-None.is) ∙ c.in_ok-plan.ensures.effect p v (fails_with (codes "try_clause") v) em eb ∙ try_chooses p kept c.args.clauses.now hs v some in
    subst (λ x. IfOk c.failing_with.result (λ plan. effect p v plan ≡ x)) none (c.failing_with.ensures.effect p v)

pub returns-in-None-clause-suits : goal.returns-in-None-clause-suits
returns-in-None-clause-suits c = c.failing_with.ensures.suits (length c.args.variables.now.pairs)
