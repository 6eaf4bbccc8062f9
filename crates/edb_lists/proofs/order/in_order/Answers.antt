use Rattle.std.proofs.Common.{◌∙◌, map, ap, Bor, rules}
use Rattle.std.proofs.lemmas.List.Sorted.{ranks_by, answers_always}
use Rattle.edb_lang.specs.declared.term.Term.{Term}
use Rattle.edb_pure.specs.Sorting.{is_below}
use Rattle.edb_lists.proofs.OrderSorted.{sort_is, term_total}
use Rattle.edb_lists.proofs.OrderWalks.{sorted_values}
use Rattle.edb_lists.proofs.order.in_order.Goals as goal

pub returns : goal.returns
returns c =
    let v = (λ (t : Bor Term). t.now) in
    let below = (λ (a b : Bor Term). is_below a.now b.now) in
    let order = ranks_by term_total v in
    let says = answers_always _ _ _ (λ f a r f' k. search rules) in
    ap (map v) (sort_is below order c.args.items.items c.sort_by.new.self.items (c.in_ok-sort_by.ensures.sorted below order says) (c.in_ok-sort_by.ensures.stable below order says))
    ∙ sorted_values v is_below c.args.items.items
