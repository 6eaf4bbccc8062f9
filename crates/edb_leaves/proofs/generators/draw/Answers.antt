use Rattle.std.proofs.Common.{◌≡◌, codes, IfOk, length, ap, sym, subst, ◌∙◌}
use Rattle.edb_lang.specs.Terms.{cons}
use Rattle.edb_lang.specs.TermViews.{datum_of}
use Rattle.edb_moves.specs.Comprehensions.{drawn}
use Rattle.edb_moves.specs.Going.{Place}
use Rattle.edb_moves.specs.Raises.{fails_with}
use Rattle.edb_path.specs.Plans.{effect}
use Rattle.edb_stack.specs.Views.{drawing_of}
use Rattle.edb_leaves.proofs.Drawn.{not_drawn}
use Rattle.edb_leaves.proofs.generators.draw.Goals as goal

pub returns-in-List-clause-effect : goal.returns-in-List-clause-effect
returns-in-List-clause-effect c = λ p v e.
    let cell = ap (λ x. cons x.head x.tail) c.deref-in-List.ensures ∙ sym (ap datum_of c.in-List.is) ∙ c.list.view_is in
    subst (λ t. IfOk c.draw_next.result (λ plan. effect p v plan ≡ drawn p (drawing_of c.args.drawing.now) t)) cell (c.draw_next.ensures.effect p v e)

pub returns-in_default : goal.returns-in_default
returns-in_default c =
    let d = drawing_of c.args.drawing.now in
    let other = λ (p : Place). subst (λ t. fails_with (codes "bad_generator") t ≡ drawn p d t) c.list.view_is (not_drawn p d c.list.inside.node c.in_default.not-Nil c.in_default.not-List) in
    record {
      effect = λ p v e. subst (λ x. IfOk c.failing_with.result (λ plan. effect p v plan ≡ x)) (other p) (c.failing_with.ensures.effect p v);
      suits = c.failing_with.ensures.suits (length c.args.variables.now.pairs);
    }
