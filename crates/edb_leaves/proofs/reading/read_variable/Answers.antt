use Rattle.std.proofs.Common.{◌≡◌, IfOk, Some, codes, length, sym, subst, ap, ◌∙◌}
use Rattle.edb_lang.specs.Pairs.{bound}
use Rattle.edb_lang.specs.Terms.{atom}
use Rattle.edb_moves.specs.Raises.{fails_with}
use Rattle.edb_path.specs.Plans.{effect}
use Rattle.edb_variables.specs.PairStacks.{place_bound}
use Rattle.edb_variables.proofs.Stacks.{Holds, place_holds}
use Rattle.edb_leaves.proofs.Given.{variable_there, variable_nowhere}
use Rattle.edb_leaves.proofs.reading.read_variable.Goals as goal

pub returns-in-Some-clause-effect : goal.returns-in-Some-clause-effect
returns-in-Some-clause-effect c = λ p v e.
    variable_there c.args.name.now p.bindings c.in-Some.place (fails_with (codes "unbound") (atom c.args.name.now)) (ap (place_bound c.args.name.now) e ∙ sym c.in-Some.ensures)

pub returns-in-Some-clause-suits : goal.returns-in-Some-clause-suits
returns-in-Some-clause-suits c =
    let h : Holds c.args.variables.now.pairs (Some c.in-Some.place) (bound c.args.name.now c.args.variables.now.pairs) = subst (λ o. Holds c.args.variables.now.pairs o (bound c.args.name.now c.args.variables.now.pairs)) (sym c.in-Some.ensures) (place_holds c.args.name.now c.args.variables.now.pairs) in
    (h.0, tt)

pub returns-in_ok-copy-in-None-clause-effect : goal.returns-in_ok-copy-in-None-clause-effect
returns-in_ok-copy-in-None-clause-effect c = λ p v e.
    let reason = ap (fails_with (codes "unbound")) (c.atom.ensures ∙ ap atom c.in_ok-copy-in-None.ensures) in
    let nowhere = variable_nowhere c.args.name.now p.bindings (fails_with (codes "unbound") (atom c.args.name.now)) (ap (place_bound c.args.name.now) e ∙ sym c.in-None.ensures) in
    subst (λ x. IfOk c.failing_with-in-None.result (λ plan. effect p v plan ≡ x)) (reason ∙ nowhere) (c.failing_with-in-None.ensures.effect p v)

pub returns-in_ok-copy-in-None-clause-suits : goal.returns-in_ok-copy-in-None-clause-suits
returns-in_ok-copy-in-None-clause-suits c = c.failing_with-in-None.ensures.suits (length c.args.variables.now.pairs)
