use Rattle.std.proofs.Common.{◌≡◌, ◌∙◌, map, length, ap, sym, subst, slice_get, ◌-◌, IfOk, Bor}
use Rattle.std.specs.Option.{option_map}
use Rattle.edb_lang.specs.declared.term.Term.{Term}
use Rattle.edb_pure.specs.Answers.{Answer}
use Rattle.edb_lists.proofs.Values.{last_is}
use Rattle.edb_lists.proofs.search.last.Goals as goal

pub returns-in-Some : goal.returns-in-Some
returns-in-Some c =
    let v = (λ (t : Bor Term). t.now) in
    let is = last_is v c.args.list.now c.in-Some.items.items _ (ap (option_map (λ items. map v items.items)) (sym c.in-Some.is) ∙ c.in_ok-items.ensures) (c.copied.ensures ∙ c.last.ensures.value ∙ (λ k. slice_get (c.deref.ensures.value k) (length (c.deref.ensures.value k) - 1))) in
    subst (λ (a : Answer). IfOk c.found.result (λ r. r ≡ a)) is c.found.ensures
