-- No console says `quit` yet, so a journal that is done is through.

use Rattle.std.proofs.Common.{◌≡◌, inl, inr, Bool, false, ◌||◌, List, refl, ◌∙◌, ap}
use Rattle.std.proofs.lemmas.Bool.{both_ways}
use Rattle.edb_event.specs.declared.call.Call.TheVariants as command
use Rattle.edb_event.specs.declared.entry.Entry.{Entry}
use Rattle.edb_event.specs.declared.entry.Entry.TheVariants as entry
use Rattle.edb_rules.specs.Plans.{Plan}
use Rattle.edb_rules.specs.Facts.{Facts, at_first}
use Rattle.edb_rules.specs.Notes.{is_quit, facts}
use Rattle.edb_rules.specs.Legal.{May, Legal, IsThrough, IsDone}
use Rattle.edb_rules.proofs.Entries.{kept_from}

no_quit : (plan : Plan) (f : Facts) (e : Entry) → May plan f e → is_quit e ≡ false
no_quit plan f (entry.Served c command.Quit r) may = absurd (both_ways _ refl may.rule.known)
no_quit plan f _ may = refl

pub never_over : (plan : Plan) (journal : List Entry) → Legal plan journal → (facts plan journal).has_quit ≡ false
never_over plan journal legal =
    kept_from plan (λ f. f.has_quit ≡ false)
    (λ f e open_ may. ap (λ (b : Bool). b || is_quit e) open_ ∙ no_quit plan f e may) (at_first plan) journal refl legal

pub done_through : (plan : Plan) (journal : List Entry) → Legal plan journal → IsDone plan (facts plan journal) → IsThrough plan (facts plan journal)
done_through plan journal legal (inl quit) = absurd (both_ways _ (never_over plan journal legal) quit.quit)
done_through plan journal legal (inr through) = through
