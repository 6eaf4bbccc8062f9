use Rattle.std.proofs.Common.{◌∙◌, map, subst, Bor, rules, arith}
use Rattle.std.proofs.lemmas.List.{take_all}
use Rattle.std.specs.Ordering.{is_lt}
use Rattle.std.proofs.lemmas.List.Sorted.{ranks_by, answers_always}
use Rattle.edb_syntax.specs.declared.modules.Function.{Function}
use Rattle.edb_units.specs.Keys.{signature_cmp, function_key}
use Rattle.edb_units.specs.Orders.{IsInOrder}
use Rattle.edb_units.proofs.Halving.{sorted_in_order}
use Rattle.edb_units.proofs.Signatures.{signature_order}
use Rattle.edb_units.proofs.order.functions_in_order.Goals as goal

pub returns : goal.returns
returns c =
    let v = (λ (x : Bor Function). x.now) in
    let below = (λ (x y : Bor Function). is_lt (signature_cmp (function_key x.now) (function_key y.now))) in
    let order = ranks_by signature_order (λ (x : Bor Function). function_key x.now) in
    let says = answers_always _ _ _ (λ f a r f' k. search rules) in
    let made = sorted_in_order signature_cmp signature_order function_key v c.loop-function.ordered.items c.sort_by.new.self.items (c.in_ok-sort_by.ensures.sorted below order says) (c.in_ok-sort_by.ensures.stable below order says) in
    subst (λ xs. IsInOrder signature_cmp function_key xs (map v c.sort_by.new.self.items)) (c.loop-function.invariant ∙ take_all _ _ (omega arith)) made
