use Rattle.std.proofs.Common.{◌≡◌, IfOk, sym, subst, ◌∙◌}
use Rattle.edb_path.specs.Plans.{effect}
use Rattle.edb_leaves.proofs.Leading.{none_new, no_layers}
use Rattle.edb_syntax.specs.Syntax.{qualifiers_of}
use Rattle.edb_fill.proofs.FillLaws.{not_filtered}
use Rattle.edb_fill.proofs.lists.filter.Goals as goal

pub returns-in_ok-path-in-Some-true-clause-suits : goal.returns-in_ok-path-in-Some-true-clause-suits
returns-in_ok-path-in-Some-true-clause-suits c = λ n.
    none_new n c.new-in-Some-true.result.items c.in_ok-path-in-Some-true.path c.new-in-Some-true.ensures.items (c.in_ok-path-in-Some-true.ensures.leads n n (no_layers n c.new.result.items c.new.ensures.items))

pub returns-in-None-clause-effect : goal.returns-in-None-clause-effect
returns-in-None-clause-effect c = λ p.
    let v = c.args.value.now in
    let row = not_filtered p c.args.element.now (qualifiers_of c.args.qualifiers.now) v (sym c.truth.ensures ∙ c.in-None.is) in
    subst (λ x. IfOk c.failing_with.result (λ plan. effect p v plan ≡ x)) row (c.failing_with.ensures.effect p v)
