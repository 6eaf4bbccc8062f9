use Rattle.std.proofs.Common.{◌≡◌, ◌∙◌, map, ap, sym, subst, IfOk, Bor}
use Rattle.std.specs.Option.{option_map}
use Rattle.edb_lang.specs.Terms.{Datum}
use Rattle.edb_lang.specs.declared.term.Term.{Term}
use Rattle.edb_pure.specs.Answers.{Answer}
use Rattle.edb_pure.specs.Lists.{each}
use Rattle.edb_lists.proofs.OrderWalks.{map_of_map, values_of, with_key, keysort_is}
use Rattle.edb_lists.proofs.order.keysort.Goals as goal

pub returns : goal.returns
returns c =
    let v = (λ (t : Bor Term). t.now) in
    let behind = (λ (p : Datum × Datum). p.1) in
    let is = keysort_is c.args.position.now c.args.list.now c.in-Some.place (map v c.in-Some-2.items.items) (map values_of c.in-Some-3.pairs.items) c.in_ok-copies_behind.field-0.items
    (sym c.in-Some.is ∙ c.place.ensures) (ap (option_map (λ items. map v items.items)) (sym c.in-Some-2.is) ∙ c.in_ok-items.ensures)
    (ap (option_map (λ pairs. map values_of pairs.items)) (sym c.in-Some-3.is) ∙ c.in_ok-pairs.ensures ∙ ap (λ xs. each (with_key c.in-Some.place) (map v xs)) c.deref.ensures.value)
    (c.in_ok-copies_behind.ensures ∙ ap (map (λ (p : Bor Term × Bor Term). p.1.now)) c.deref-2.ensures.value ∙ sym (map_of_map behind values_of c.in_ok-ordered.ordered.items) ∙ ap (map behind) c.in_ok-ordered.ensures) in
    subst (λ (a : Answer). IfOk c.list.result (λ r. r ≡ a)) is c.list.ensures
