-- A clause that is chosen, as a plan.

use Rattle.std.proofs.Common.{◌≡◌, ℕ, List, [], Option, None, Some, unwrap_or, ap, sym, subst, ◌∙◌}
use Rattle.std.specs.Option.{option_map}
use Rattle.std.proofs.lemmas.List.{append-nil}
use Rattle.edb_lang.specs.declared.term.Captured.{Captured}
use Rattle.edb_lang.specs.Terms.{Datum}
use Rattle.edb_lang.specs.Pairs.{Pairs}
use Rattle.edb_syntax.specs.Syntax.{Seq, Clauses}
use Rattle.edb_guards.specs.declared.choice.Choice.{Choice}
use Rattle.edb_guards.specs.Choices.{choice_of}
use Rattle.edb_match.specs.Newest as match
use Rattle.edb_moves.specs.Clauses.{chosen}
use Rattle.edb_moves.specs.Going.{Place, Effect, if_some, taken}
use Rattle.edb_moves.specs.Running.{Run}
use Rattle.edb_path.proofs.Newest.{newest_first_same}
use Rattle.edb_variables.specs.PairStacks.{newest_first}

pub in_front_of_none : (seen : List Captured) (bs : Pairs) → newest_first seen ≡ bs → match.newest_first seen [] ≡ bs
in_front_of_none seen bs e = newest_first_same seen [] ∙ append-nil (newest_first seen) ∙ e

by_choice : (b : Pairs) (z : Effect Run) (f : Option Choice) (o : Option (Pairs × Seq)) → option_map (choice_of b) f ≡ o → unwrap_or (option_map (λ c. taken (choice_of b c)) f) z ≡ if_some o taken z
by_choice b z (Some c) o h = ap (λ q. if_some q taken z) h
by_choice b z None o h = ap (λ q. if_some q taken z) h

-- what is chosen under pairs that the place sees
pub clause_taken : (p : Place) (me : ℕ) (bs : Pairs) (seen : List Captured) (cs : Clauses) (vs : List Datum) (found : Option Choice) (z : Effect Run)
    → p.me ≡ me → p.bindings ≡ bs → newest_first seen ≡ bs → option_map (choice_of (match.newest_first seen [])) found ≡ chosen me (match.newest_first seen []) [] cs vs
    → unwrap_or (option_map (λ c. taken (choice_of p.bindings c)) found) z ≡ if_some (chosen p.me p.bindings [] cs vs) taken z
clause_taken p me bs seen cs vs found z em eb es h =
    let same : match.newest_first seen [] ≡ p.bindings = in_front_of_none seen bs es ∙ sym eb in
    let here : option_map (choice_of p.bindings) found ≡ chosen me p.bindings [] cs vs = subst (λ b. option_map (choice_of b) found ≡ chosen me b [] cs vs) same h in
    by_choice p.bindings z found (chosen p.me p.bindings [] cs vs) (subst (λ n. option_map (choice_of p.bindings) found ≡ chosen n p.bindings [] cs vs) (sym em) here)
