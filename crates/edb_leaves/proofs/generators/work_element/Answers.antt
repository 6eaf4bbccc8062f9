use Rattle.std.proofs.Common.{◌+◌, ◌++◌, length, ap, arith, ◌∙◌}
use Rattle.edb_moves.specs.Comprehensions.{listed}
use Rattle.edb_moves.specs.Going.{turns}
use Rattle.edb_stack.specs.Paths.{outer, wrapped, path_tree}
use Rattle.edb_stack.proofs.Fits.{fit_frame}
use Rattle.edb_syntax.specs.Syntax.{qualifiers_of}
use Rattle.edb_variables.specs.PairStacks.{newest_first}
use Rattle.edb_leaves.proofs.Leading.{no_layers, pushed, two_pushed, scoped, oldest_newer}
use Rattle.edb_leaves.proofs.generators.work_element.Goals as goal

pub returns-clause-effect : goal.returns-clause-effect
returns-clause-effect c = λ p v e.
    let bs = newest_first c.args.new.items ++ p.bindings in
    let two = two_pushed c.new-layers.result.items c.push.new.self.items c.push-2.new.self.items _ _ c.new-layers.ensures.items c.in_ok-push.ensures.items c.in_ok-push-2.ensures.items in
    let out = c.in_ok-path.ensures.outer bs ∙ ap (λ ls. outer ls bs) two ∙ oldest_newer (newest_first c.args.new.items) p.bindings c.args.variables.now.pairs c.len.result c.len.ensures e in
    let tree = c.in_ok-path.ensures.tree bs ∙ ap (λ ls. wrapped ls bs (listed c.args.drawing.element.now (qualifiers_of c.args.drawing.rest.now))) two in
    ap (λ cs. turns cs (path_tree bs c.in_ok-path.path)) out ∙ ap (turns p.bindings) tree

pub returns-clause-suits : goal.returns-clause-suits
returns-clause-suits c =
    let n = length c.args.variables.now.pairs in
    let m = length c.args.new.items + n in
    let kept = pushed n n c.new-layers.result.items c.push.new.self.items _ c.in_ok-push.ensures.items (fit_frame n n _ _ (no_layers n c.new-layers.result.items c.new-layers.ensures.items)) in
    c.in_ok-path.ensures.leads n m (pushed n m c.push.new.self.items c.push-2.new.self.items _ c.in_ok-push-2.ensures.items (scoped n m c.len.result _ c.len.ensures (omega arith) kept))
