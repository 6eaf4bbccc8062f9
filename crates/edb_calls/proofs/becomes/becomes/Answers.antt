use Rattle.std.proofs.Common.{◌++◌, ◌+◌, ◌∙◌, length, map, ap, sym, subst, arith}
use Rattle.edb_stack.specs.Marks.{AllBelow}
use Rattle.edb_stack.specs.Views.{item_of}
use Rattle.edb_stack.specs.declared.item.Item.TheVariants.{Value}
use Rattle.edb_calls.proofs.Operands.{turned_values, leads_alone, values_below, values_joined}
use Rattle.edb_calls.proofs.becomes.becomes.Goals as goal

pub returns-clause-effect : goal.returns-clause-effect
returns-clause-effect c p v =
    let vs = map (λ t. t.now) c.args.first.now in
    let ws = map (λ t. t.now) c.args.rest.now in
    let items = c.in_ok-append.ensures.items
    ∙ ap (λ xs. xs ++ c.in_ok-behind.behind.items) c.in_ok-items.ensures
    ∙ ap (λ ys. map Value vs ++ ys) c.in_ok-behind.ensures
    ∙ values_joined vs ws in
    turned_values p c.new-2.result.items c.new.result.items c.append.new.self.items c.args.doing (vs ++ ws) c.new-2.ensures.items c.new.ensures.items items

pub returns-clause-suits : goal.returns-clause-suits
returns-clause-suits c n =
    let vs = map (λ t. t.now) c.args.first.now in
    let ws = map (λ t. t.now) c.args.rest.now in
    let items = c.in_ok-append.ensures.items
    ∙ ap (λ xs. xs ++ c.in_ok-behind.behind.items) c.in_ok-items.ensures
    ∙ ap (λ ys. map Value vs ++ ys) c.in_ok-behind.ensures
    ∙ values_joined vs ws in
    let count = length c.new-2.result.items + n in
    leads_alone n count _ (omega arith) c.new.ensures.items (subst (λ is. AllBelow count (map item_of is)) (sym items) (values_below count (vs ++ ws))) tt
