use Rattle.std.proofs.Common.{◌≡◌, IfOk, ap, sym, subst, ◌∙◌}
use Rattle.edb_lang.specs.Terms.{made, is_within}
use Rattle.edb_lang.specs.TermViews.{pairs_of, captures_in}
use Rattle.edb_moves.specs.Going.{turns}
use Rattle.edb_moves.specs.Running.{value}
use Rattle.edb_path.specs.Plans.{effect}
use Rattle.edb_leaves.proofs.FunLaws.{form_refused, form_made}
use Rattle.edb_leaves.proofs.making.make_form.Goals as goal

pub returns-then-not-branch-clause-effect : goal.returns-then-not-branch-clause-effect
returns-then-not-branch-clause-effect c = λ p v h.
    let here = c.args.here.now in
    let taken = ap (λ cs. is_within (made here.unit.now.name here.version c.args.index c.args.arity (captures_in cs))) (sym c.deref.ensures.value) in
    let past = taken ∙ sym (c.in_ok-may_take.ensures here.unit.now.name here.version c.args.index c.args.arity) ∙ c.if-not-branch.true in
    subst (λ x. IfOk c.failing.result (λ plan. effect p v plan ≡ x)) (form_refused p p.bodies here.unit.now here.version c.args.index c.args.arity (pairs_of c.args.captured.items) h past) (c.failing.ensures.effect p v)

pub returns-clause-effect : goal.returns-clause-effect
returns-clause-effect c = λ p v h.
    let here = c.args.here.now in
    let taken = ap (λ cs. is_within (made here.unit.now.name here.version c.args.index c.args.arity (captures_in cs))) (sym c.deref.ensures.value) in
    let kept = taken ∙ sym (c.in_ok-may_take.ensures here.unit.now.name here.version c.args.index c.args.arity) ∙ c.if-not-branch.false in
    let named = ap (λ m. turns p.bindings (value (made m here.version c.args.index c.args.arity (captures_in c.args.captured.items)))) (c.in_ok-copy.ensures ∙ c.name.ensures) in
    subst (λ x. IfOk c.give_fun.result (λ plan. effect p v plan ≡ x)) (named ∙ form_made p p.bodies here.unit.now here.version c.args.index c.args.arity (pairs_of c.args.captured.items) h kept) (c.give_fun.ensures.effect p v)
