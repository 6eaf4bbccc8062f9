use Rattle.std.proofs.Common.{◌∙◌, map, ap, Bor, rules}
use Rattle.std.proofs.lemmas.List.Sorted.{ranks_by, answers_always}
use Rattle.edb_lang.specs.declared.term.Term.{Term}
use Rattle.edb_pure.specs.Keys.{is_key_below}
use Rattle.edb_lists.proofs.OrderSorted.{sort_is, term_total}
use Rattle.edb_lists.proofs.OrderWalks.{sorted_values, values_of}
use Rattle.edb_lists.proofs.order.by_key.Goals as goal

pub returns : goal.returns
returns c =
    let below = (λ (p q : Bor Term × Bor Term). is_key_below (values_of p) (values_of q)) in
    let order = ranks_by term_total (λ (p : Bor Term × Bor Term). p.0.now) in
    let says = answers_always _ _ _ (λ f a r f' k. search rules) in
    ap (map values_of) (sort_is below order c.args.pairs.items c.sort_by.new.self.items (c.in_ok-sort_by.ensures.sorted below order says) (c.in_ok-sort_by.ensures.stable below order says))
    ∙ sorted_values values_of is_key_below c.args.pairs.items
