use Rattle.std.proofs.Common.{◌≡◌, ◌∙◌, map, ap, sym, subst, IfOk, arith, Bor, drop}
use Rattle.std.specs.Option.{option_map}
use Rattle.std.proofs.lemmas.List.{length-map}
use Rattle.std.proofs.lemmas.Bool.{le-leb}
use Rattle.edb_lang.specs.declared.term.Term.{Term}
use Rattle.edb_pure.specs.Answers.{Answer}
use Rattle.edb_lists.proofs.Values.{nthtail_is, map-drop}
use Rattle.edb_lists.proofs.build.nthtail.Goals as goal

pub returns : goal.returns
returns c =
    let v = (λ (t : Bor Term). t.now) in
    let is = nthtail_is c.args.length.now c.args.list.now c.in-Some.length (map v c.in-Some-2.items.items) c.in_ok-copies.field-0.items (sym c.count.ensures ∙ c.in-Some.is) (ap (option_map (λ items. map v items.items)) (sym c.in-Some-2.is) ∙ c.in_ok-items.ensures) (le-leb _ _ (simp length-map (omega arith)))
    (c.in_ok-copies.ensures ∙ ap (map v) c.split_at.ensures.back ∙ ap (λ xs. map v (drop c.in-Some.length xs)) c.deref.ensures.value ∙ map-drop v c.in-Some.length c.in-Some-2.items.items) in
    subst (λ (a : Answer). IfOk c.list.result (λ r. r ≡ a)) is c.list.ensures
