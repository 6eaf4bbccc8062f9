use Rattle.std.proofs.Common.{◌∙◌, map, subst, Bor, rules, arith}
use Rattle.std.proofs.lemmas.List.{take_all}
use Rattle.std.specs.Ordering.{is_lt}
use Rattle.std.proofs.lemmas.List.Sorted.{ranks_by, answers_always}
use Rattle.edb_syntax.specs.declared.modules.Export.{Export}
use Rattle.edb_units.specs.Keys.{signature_cmp, export_key}
use Rattle.edb_units.specs.Orders.{IsInOrder}
use Rattle.edb_units.proofs.Halving.{sorted_in_order}
use Rattle.edb_units.proofs.Signatures.{signature_order}
use Rattle.edb_units.proofs.order.exports_in_order.Goals as goal

pub returns : goal.returns
returns c =
    let v = (λ (x : Bor Export). x.now) in
    let below = (λ (x y : Bor Export). is_lt (signature_cmp (export_key x.now) (export_key y.now))) in
    let order = ranks_by signature_order (λ (x : Bor Export). export_key x.now) in
    let says = answers_always _ _ _ (λ f a r f' k. search rules) in
    let made = sorted_in_order signature_cmp signature_order export_key v c.loop-export.ordered.items c.sort_by.new.self.items (c.in_ok-sort_by.ensures.sorted below order says) (c.in_ok-sort_by.ensures.stable below order says) in
    subst (λ xs. IsInOrder signature_cmp export_key xs (map v c.sort_by.new.self.items)) (c.loop-export.invariant ∙ take_all _ _ (omega arith)) made
