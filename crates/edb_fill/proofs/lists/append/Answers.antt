use Rattle.std.proofs.Common.{◌≡◌, ◌++◌, IfOk, ap, subst, ◌∙◌}
use Rattle.edb_lang.specs.ListTerms.{list_of}
use Rattle.edb_lang.specs.Terms.{nil, is_within, elements}
use Rattle.edb_path.specs.Plans.{effect}
use Rattle.edb_stack.specs.Views.{drawing_of}
use Rattle.edb_leaves.proofs.Leading.{none_new, no_layers}
use Rattle.edb_fill.proofs.FillLaws.{not_appended}
use Rattle.edb_fill.proofs.lists.append.Goals as goal

pub returns-then-not-branch-clause-effect : goal.returns-then-not-branch-clause-effect
returns-then-not-branch-clause-effect c = λ p.
    let d = drawing_of c.args.drawing.now in
    let all = c.deref.ensures.value ∙ c.in_ok-gather_elements.ensures ∙ ap (λ e. e.gathered ++ elements c.args.part.now) c.in_ok-more.ensures in
    let within = c.in_ok-is_list_within.ensures ∙ ap (λ ts. is_within (list_of ts nil)) all in
    let row = not_appended p d c.args.rest.now c.args.part.now c.in_ok-is_list_within.field-0 within c.if-not-branch.true in
    subst (λ x. IfOk c.failing.result (λ plan. effect p c.args.part.now plan ≡ x)) row (c.failing.ensures.effect p c.args.part.now)

pub returns-clause-suits : goal.returns-clause-suits
returns-clause-suits c = λ n.
    none_new n c.new.result.items _ c.new.ensures.items (record { fit = no_layers n c.new-layers.result.items c.new-layers.ensures.items; below = tt; filled = tt })
