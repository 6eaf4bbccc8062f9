-- What holds at each place of a legal journal.

use Rattle.std.proofs.Common.{◌≡◌, ℕ, zero, suc, List, [], ◌∷◌, Some, take, subst}
use Rattle.std.specs.List.{slice_get}
use Rattle.std.proofs.lemmas.Option.{none-some, same_Some}
use Rattle.edb_event.specs.declared.entry.Entry.{Entry}
use Rattle.edb_rules.specs.Plans.{Plan}
use Rattle.edb_rules.specs.Facts.{Facts, at_first}
use Rattle.edb_rules.specs.Notes.{note, after, facts}
use Rattle.edb_rules.specs.Legal.{May, LegalFrom, Legal}

-- What holds of the facts before a legal entry holds of those after it; so it holds of those that a journal leads to.
pub kept_from : (plan : Plan) (P : Facts → Type 0) → ((f : Facts) (e : Entry) → P f → May plan f e → P (note plan f e))
    → (f : Facts) (es : List Entry) → P f → LegalFrom plan f es → P (after plan f es)
kept_from plan P step f [] here legal = here
kept_from plan P step f (e ∷ es) here legal = kept_from plan P step (note plan f e) es (step f e here legal.0) legal.1

-- an entry of a legal journal may stand after the facts before it
may_from : (plan : Plan) (f : Facts) (es : List Entry) (k : ℕ) (e : Entry) → LegalFrom plan f es → slice_get es k ≡ Some e → May plan (after plan f (take k es)) e
may_from plan f [] k e legal at = absurd (none-some e at)
may_from plan f (d ∷ es) zero e legal at = subst (λ (x : Entry). May plan f x) (same_Some d e at) legal.0
may_from plan f (d ∷ es) (suc k) e legal at = may_from plan (note plan f d) es k e legal.1 at

pub may_at : (plan : Plan) (journal : List Entry) (k : ℕ) (e : Entry) → Legal plan journal → slice_get journal k ≡ Some e → May plan (facts plan (take k journal)) e
may_at plan journal k e legal at = may_from plan (at_first plan) journal k e legal at

-- the beginning of a legal journal is legal
taken_from : (plan : Plan) (f : Facts) (es : List Entry) (k : ℕ) → LegalFrom plan f es → LegalFrom plan f (take k es)
taken_from plan f [] zero legal = tt
taken_from plan f [] (suc k) legal = tt
taken_from plan f (e ∷ es) zero legal = tt
taken_from plan f (e ∷ es) (suc k) legal = (legal.0, taken_from plan (note plan f e) es k legal.1)

pub legal_take : (plan : Plan) (journal : List Entry) (k : ℕ) → Legal plan journal → Legal plan (take k journal)
legal_take plan journal k legal = taken_from plan (at_first plan) journal k legal

-- so what holds at first and is kept holds at each place of a legal journal
pub kept_at : (plan : Plan) (P : Facts → Type 0) → ((f : Facts) (e : Entry) → P f → May plan f e → P (note plan f e))
    → P (at_first plan) → (journal : List Entry) (k : ℕ) → Legal plan journal → P (facts plan (take k journal))
kept_at plan P step first journal k legal = kept_from plan P step (at_first plan) (take k journal) first (legal_take plan journal k legal)
