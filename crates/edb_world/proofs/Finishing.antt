-- What a world leaves that is over.

use Rattle.std.proofs.Common.{◌≡◌, Bool, true, false, not, List, sym, ◌∙◌, ap, subst}
use Rattle.edb_event.specs.declared.entry.Entry.{Entry}
use Rattle.edb_model.specs.Plain.{tables_of}
use Rattle.edb_rules.specs.Plans.{Plan}
use Rattle.edb_rules.specs.Facts.{Facts}
use Rattle.edb_rules.specs.Notes.{facts}
use Rattle.edb_rules.specs.Legal.{Legal, IsOneHanded, IsDone, IsLimit}
use Rattle.edb_world.specs.declared.world.World.{World}
use Rattle.edb_world.specs.declared.world.Outcome.{Outcome}
use Rattle.edb_world.specs.Worlds.{IsGoing, IsStopped}
use Rattle.edb_world.specs.Outcomes.{IsOverBy, IsOutcome}

pub stopped_going : (old new : World) (rests : Bool) → IsStopped old new rests → IsGoing new
stopped_going old new true h = h.going
stopped_going old new false h = h.0

stopped_plan : (old new : World) (rests : Bool) → IsStopped old new rests → new.state.plan ≡ old.state.plan
stopped_plan old new true h = h.plan
stopped_plan old new false h = h.1

stopped_over : (old new : World) (rests : Bool) → IsStopped old new rests → IsOverBy new.state.plan (not rests) new.journal.entries
stopped_over old new true h = subst (λ (f : Facts). IsDone new.state.plan f) (sym h.going.keeps.kept.facts) h.done
stopped_over old new false h = subst (λ (f : Facts). IsLimit new.state.plan f) (sym h.0.keeps.kept.facts) h.2

pub outcome : (old new : World) (rests : Bool) (left : Outcome) → IsStopped old new rests → left.journal.entries ≡ new.journal.entries
    → left.limit ≡ not rests → left.tables ≡ tables_of new.state.facts.plain → IsOutcome old.state.plan left
outcome old new rests left h entries limit tables =
    let kept = (stopped_going old new rests h).keeps.kept in
    let plan = stopped_plan old new rests h in
    subst (λ (p : Plan). IsOutcome p left) plan (record {
      legal = subst (λ (es : List Entry). Legal new.state.plan es) (sym entries) kept.legal;
      one_hand = subst (λ (es : List Entry). IsOneHanded new.state.plan es) (sym entries) kept.one_hand;
      over = subst (λ (b : Bool). IsOverBy new.state.plan b left.journal.entries) (sym limit)
          (subst (λ (es : List Entry). IsOverBy new.state.plan (not rests) es) (sym entries) (stopped_over old new rests h));
      tables = tables ∙ ap (λ (f : Facts). tables_of f.plain) (sym kept.facts ∙ ap (λ (es : List Entry). facts new.state.plan es) (sym entries));
    })
