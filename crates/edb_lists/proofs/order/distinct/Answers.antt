use Rattle.std.proofs.Common.{◌∙◌, map, ap, Bor, rules}
use Rattle.std.proofs.lemmas.Fn.{dedup_same}
use Rattle.edb_lang.specs.declared.term.Term.{Term}
use Rattle.edb_pure.specs.Truths.{same_term}
use Rattle.edb_lists.proofs.OrderWalks.{distinct_values}
use Rattle.edb_lists.proofs.order.distinct.Goals as goal

pub returns : goal.returns
returns c =
    let v = (λ (t : Bor Term). t.now) in
    let same = (λ (a b : Bor Term). same_term a.now b.now) in
    ap (map v) (dedup_same _ same _ (λ x y b f' x' y' k. search rules) c.args.items.items c.dedup_by.new.self.items c.dedup_by.ensures.filtered)
    ∙ distinct_values v same_term c.args.items.items
