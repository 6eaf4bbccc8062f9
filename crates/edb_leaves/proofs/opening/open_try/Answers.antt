use Rattle.std.proofs.Common.{length, reverse, sym, subst}
use Rattle.edb_stack.specs.Paths.{Fit}
use Rattle.edb_stack.specs.Views.{layers_of}
use Rattle.edb_leaves.proofs.Leading.{none_new, pushed, no_layers, keeps_tried, keeps_waiting}
use Rattle.edb_leaves.proofs.opening.open_try.Goals.{in-Some+in_ok-push, in_default}
use Rattle.edb_leaves.proofs.opening.open_try.Goals as goal

-- the layer of the `after`, where there is one
after_fits : (c : goal.After-new) → Fit (length c.args.variables.now.pairs) (length c.args.variables.now.pairs) (layers_of (reverse c.match-after.layers.items))
after_fits c = elim c.match-after.branch [
  | in-Some+in_ok-push w ↦
      let n = length c.args.variables.now.pairs in
      let none = no_layers n c.new-layers.result.items c.new-layers.ensures.items in
      subst (λ ls. Fit n n (layers_of (reverse ls.items))) (sym w.layers-is) (pushed n n c.new-layers.result.items w.push.new.self.items _ w.in_ok-push.ensures.items (keeps_waiting n c.len-mark.result _ _ c.len-mark.ensures none))
  | in_default w ↦
      let n = length c.args.variables.now.pairs in
      subst (λ ls. Fit n n (layers_of (reverse ls.items))) (sym w.layers-is) (no_layers n c.new-layers.result.items c.new-layers.ensures.items)
]

pub returns-clause-suits : goal.returns-clause-suits
returns-clause-suits c =
    let n = length c.args.variables.now.pairs in
    let fit = keeps_tried n c.len-mark.result _ _ _ c.len-mark.ensures (after_fits c) in
    none_new n c.new.result.items _ c.new.ensures.items (record { fit = pushed n n c.match-after.layers.items c.push-2.new.self.items _ c.in_ok-push-2.ensures.items fit; below = tt; filled = tt })
