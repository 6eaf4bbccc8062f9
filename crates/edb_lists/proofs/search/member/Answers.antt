use Rattle.std.proofs.Common.{◌≡◌, ◌∙◌, map, ap, sym, subst, position, IfOk, Bor, is_some}
use Rattle.std.specs.Option.{option_map}
use Rattle.edb_lang.specs.declared.term.Term.{Term}
use Rattle.edb_pure.specs.Answers.{Answer}
use Rattle.edb_pure.specs.Truths.{same_term}
use Rattle.edb_lists.proofs.Values.{member_is}
use Rattle.edb_lists.proofs.search.member.Goals as goal

pub returns-in-Some : goal.returns-in-Some
returns-in-Some c =
    let v = (λ (t : Bor Term). t.now) in
    let is = member_is c.args.wanted.now c.args.list.now (map v c.in-Some.items.items) _ (ap (option_map (λ items. map v items.items)) (sym c.in-Some.is) ∙ c.in_ok-items.ensures) (c.is_some.ensures ∙ ap is_some c.first.ensures ∙ ap (λ xs. is_some (position (same_term c.args.wanted.now) (map v xs))) c.deref.ensures.value) in
    subst (λ (a : Answer). IfOk c.truth.result (λ r. r ≡ a)) is c.truth.ensures
