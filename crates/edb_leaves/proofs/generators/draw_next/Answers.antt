use Rattle.std.proofs.Common.{◌≡◌, [], IfOk, length, ap, sym, subst, ◌∙◌}
use Rattle.std.specs.Option.{option_map}
use Rattle.edb_match.specs.Newest as match
use Rattle.edb_path.specs.Plans.{effect}
use Rattle.edb_stack.specs.Views.{drawing_of}
use Rattle.edb_leaves.proofs.Drawn.{drawn_element}
use Rattle.edb_leaves.proofs.Leading.{none_new, no_layers}
use Rattle.edb_leaves.proofs.generators.draw_next.Goals as goal

pub returns-in-Some-clause-effect : goal.returns-in-Some-clause-effect
returns-in-Some-clause-effect c = λ p v e.
    let found = sym (ap (option_map (λ new. match.newest_first new.items [])) c.in-Some.is) ∙ c.in_ok-new.ensures in
    let same = drawn_element p (drawing_of c.args.drawing.now) (drawing_of c.in_ok-kept.kept) c.args.cell.now.head c.args.cell.now.tail c.in_ok-tail.tail c.in-Some.new.items c.in_ok-kept.ensures c.in_ok-tail.ensures found in
    subst (λ x. IfOk c.work_element.result (λ plan. effect p v plan ≡ x)) same (c.work_element.ensures.effect p v e)

pub returns-in-None-clause-suits : goal.returns-in-None-clause-suits
returns-in-None-clause-suits c =
    let n = length c.args.variables.now.pairs in
    none_new n c.new.result.items _ c.new.ensures.items (record { fit = no_layers n c.new-layers.result.items c.new-layers.ensures.items; below = tt; filled = tt })
