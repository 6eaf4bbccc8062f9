-- A turn of one entry leads from a world that goes on to another.

use Rattle.std.proofs.Common.{◌≡◌, ◌<◌, ◌≤◌, false, List, [], ◌∷◌, ◌++◌, length, sym, ◌∙◌, ap, subst}
use Rattle.edb_event.specs.declared.entry.Entry.{Entry}
use Rattle.edb_event.specs.Ranges.{IsEntry}
use Rattle.edb_event.specs.Weights.{weight, weight_of}
use Rattle.edb_rules.specs.Plans.{Plan}
use Rattle.edb_rules.specs.Facts.{Facts}
use Rattle.edb_rules.specs.Notes.{note}
use Rattle.edb_rules.specs.Ranks.{MayBegin, NoLease}
use Rattle.edb_rules.specs.Legal.{May, MayAlone, IsLimit}
use Rattle.edb_rules.proofs.Endings.{IsNoLease}
use Rattle.edb_rules.proofs.Overs.{never_over}
use Rattle.edb_rules.proofs.Kept.{lists_agree}
use Rattle.edb_rules.proofs.Weighed.{weight_is}
use Rattle.edb_rules.proofs.Ranges.{entry_in_range}
use Rattle.edb_rules.proofs.Numbers.{few_processes, turn_within}
use Rattle.edb_world.specs.declared.world.World.{World}
use Rattle.edb_world.specs.Known.{Known, noted}
use Rattle.edb_world.specs.Plans.{IsPlan}
use Rattle.edb_world.specs.Worlds.{IsKept, Keeps, IsGoing, Went}
use Rattle.edb_world.proofs.Growing.{grown, heavier, free_after}
use Rattle.edb_world.proofs.Calm.{IsCalm, calm_at}

pub begins : (w : World) → Keeps w → w.state.facts.weight < w.state.plan.weight_limit → MayBegin w.state.plan w.state.facts
begins w k light =
    record {
      light = light;
      whole = k.whole;
      no_quit = subst (λ (f : Facts). f.has_quit ≡ false) k.kept.facts (never_over w.state.plan w.journal.entries k.kept.legal);
    }

-- no signal is in flight, and no deadline above the clock
pub calm_here : (w : World) → Keeps w → IsCalm w.state.facts.plain
calm_here w k = subst (λ (f : Facts). IsCalm f.plain) k.kept.facts (calm_at w.state.plan w.journal.entries k.kept.legal)

-- what is kept of one more entry
pub kept_more : (old new : World) (e : Entry) → IsKept old.state.plan old.journal.entries old.state.facts → May old.state.plan old.state.facts e
    → MayAlone old.state.plan old.state.facts e → new.state ≡ noted old.state e → new.journal.entries ≡ old.journal.entries ++ e ∷ []
    → IsKept new.state.plan new.journal.entries new.state.facts
kept_more old new e k may alone state entries =
    subst (λ (s : Known). IsKept s.plan new.journal.entries s.facts) (sym state)
    (subst (λ (es : List Entry). IsKept old.state.plan es (note old.state.plan old.state.facts e)) (sym entries)
    (grown old.state.plan old.journal.entries old.state.facts e k may alone))

-- the entry of a turn is in range
pub in_range : (plan : Plan) (journal : List Entry) (f : Facts) (e : Entry) → IsPlan plan → IsKept plan journal f → May plan f e → IsEntry e
in_range plan journal f e p k may =
    entry_in_range plan journal e p.bounds p.commands k.legal (subst (λ (g : Facts). May plan g e) (sym k.facts) may)

-- the journal weighs what its facts say
pub weighed : (plan : Plan) (journal : List Entry) (f : Facts) → IsKept plan journal f → weight journal ≡ f.weight
weighed plan journal f k = sym (weight_is plan journal) ∙ ap (λ (g : Facts). g.weight) k.facts

-- how many processes there are, and that the last turn was one's
pub few_here : (w : World) → Keeps w → length w.state.facts.plain.running ≤ 65536
few_here w k = subst (λ (f : Facts). length f.plain.running ≤ 65536) k.kept.facts (few_processes w.state.plan w.journal.entries k.kept.legal)

pub turn_here : (w : World) → Keeps w → w.state.facts.turn ≤ length w.state.facts.plain.running
turn_here w k = subst (λ (f : Facts). f.turn ≤ length f.plain.running) k.kept.facts (turn_within w.state.plan w.journal.entries k.kept.legal)

-- An entry may stand next in a world that goes on: it weighs one, nothing has to stand behind it, and it takes no lease.
pub record StandsAlone (w : World) (e : Entry) : Type 0 where
  pub may : May w.state.plan w.state.facts e
  pub alone : NoLease w.state.facts → MayAlone w.state.plan w.state.facts e
  pub one : weight_of e ≡ 1
  pub whole : (note w.state.plan w.state.facts e).coming ≡ w.state.facts.coming
  pub other : IsNoLease e

pub stands_range : (w : World) (d e : Entry) → IsPlan w.state.plan → Keeps w → StandsAlone w e → d ≡ e → IsEntry d
stands_range w d e plan keeps stands is = subst IsEntry (sym is) (in_range w.state.plan w.journal.entries w.state.facts e plan keeps.kept stands.may)

pub stands_one : (w : World) (d e : Entry) → StandsAlone w e → d ≡ e → weight_of d ≡ 1
stands_one w d e stands is = ap weight_of is ∙ stands.one

-- the world went on by it
pub stands_went : (old new : World) (d e : Entry) → IsGoing old → old.state.facts.weight < old.state.plan.weight_limit → StandsAlone old e → d ≡ e
    → new.state ≡ noted old.state d → new.journal.entries ≡ old.journal.entries ++ d ∷ [] → Went old new
stands_went old new d e going light stands is state entries =
    let s = old.state in
    let none = going.free light in
    let state_is : new.state ≡ noted s e = state ∙ ap (λ (x : Entry). noted s x) is in
    record {
      going = record {
        keeps = record {
          kept = kept_more old new e going.keeps.kept stands.may (stands.alone none) state_is (entries ∙ ap (λ (x : Entry). old.journal.entries ++ x ∷ []) is);
          whole = ap (λ (k : Known). k.facts.coming) state_is ∙ (stands.whole ∙ going.keeps.whole);
        };
        free = λ still_light. subst (λ (k : Known). NoLease k.facts) (sym state_is) (free_after s.plan s.facts e none stands.may stands.other);
      };
      plan = ap (λ (k : Known). k.plan) state_is;
      heavier = subst (λ (k : Known). s.facts.weight < k.facts.weight) (sym state_is) (heavier s.plan s.facts e);
    }

-- the lists agree
pub agrees : (plan : Plan) (journal : List Entry) (f : Facts) → IsKept plan journal f → length f.debuggees ≡ length f.plain.running
agrees plan journal f k = subst (λ (g : Facts). length g.debuggees ≡ length g.plain.running) k.facts (lists_agree plan journal k.legal)

-- the weight is reached
pub at_limit : (w : World) → Keeps w → w.state.plan.weight_limit ≤ w.state.facts.weight → IsLimit w.state.plan w.state.facts
at_limit w k full =
    record { full = full; whole = k.whole; no_quit = subst (λ (f : Facts). f.has_quit ≡ false) k.kept.facts (never_over w.state.plan w.journal.entries k.kept.legal) }
