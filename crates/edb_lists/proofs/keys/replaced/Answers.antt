use Rattle.std.proofs.Common.{◌≡◌, ◌∙◌, map, ap, sym, subst, position, IfOk, Bor}
use Rattle.std.specs.Option.{option_map}
use Rattle.edb_lang.specs.declared.term.Term.{Term}
use Rattle.edb_pure.specs.Answers.{Answer, list_answer}
use Rattle.edb_pure.specs.Keys.{has_key, with_item}
use Rattle.edb_lists.proofs.Values.{by_key_is}
use Rattle.edb_lists.proofs.keys.replaced.Goals as goal

pub returns : goal.returns
returns c =
    let v = (λ (t : Bor Term). t.now) in
    let is = by_key_is (λ ts at. list_answer (with_item at c.args.new.now ts ts)) c.args.key.now c.args.position.now c.args.list.now c.in-Some.place (map v c.in-Some-2.items.items) _
    (sym c.in-Some.is ∙ c.place.ensures) (ap (option_map (λ items. map v items.items)) (sym c.in-Some-2.is) ∙ c.in_ok-items.ensures)
    (c.find_key-at.ensures.found ∙ ap (λ xs. position (has_key c.args.key.now c.in-Some.place) (map v xs)) c.deref.ensures.value) in
    subst (λ (a : Answer). IfOk c.list.result (λ r. r ≡ a)) (ap list_answer (c.in_ok-copies.ensures ∙ ap (map v) c.deref-2.ensures.value ∙ c.with_item-changed.ensures) ∙ is) c.list.ensures
