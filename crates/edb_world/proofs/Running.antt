-- A slice: its lease and its moves lead from a world that goes on to one in which its end is to come.

use Rattle.std.proofs.Common.{◌≡◌, ◌⊎◌, inl, inr, ℕ, ◌+◌, ◌-◌, ◌<◌, ◌≤◌, min, max, true, false, ◌&&◌, nat_eq, List, [], ◌∷◌, ◌++◌, length, None, Some, refl, sym, ◌∙◌, ap, subst, arith}
use Rattle.std.proofs.lemmas.Bool.{both_ways}
use Rattle.edb_model.specs.Running.{Run}
use Rattle.edb_model.specs.Plain.{Plain}
use Rattle.edb_model.specs.Plain as model
use Rattle.edb_model.specs.Procs.{numbered, with_numbered}
use Rattle.edb_event.specs.declared.entry.Entry.{Entry}
use Rattle.edb_event.specs.declared.entry.Entry.TheVariants as entry
use Rattle.edb_rules.specs.Plans.{Plan}
use Rattle.edb_rules.specs.Facts.{Debuggee, Facts, unseen, debuggee_at}
use Rattle.edb_rules.specs.Slices as rules
use Rattle.edb_rules.specs.Slices.{IsSlice, after_moves}
use Rattle.edb_rules.specs.SliceEnds.{end_entries}
use Rattle.edb_rules.specs.Turns.{leases, turn_of}
use Rattle.edb_rules.specs.Ranks.{NoLease}
use Rattle.edb_rules.specs.Notes.{leased, note}
use Rattle.edb_rules.specs.Legal.{May}
use Rattle.edb_rules.proofs.Changes.{with_or, with_within}
use Rattle.edb_rules.proofs.Present.{lives_within, coming_is}
use Rattle.edb_rules.proofs.Turning.{leases_in}
use Rattle.edb_rules.proofs.Endings.{ran_lives}
use Rattle.edb_rules.proofs.OneJournal.{none_new}
use Rattle.edb_eval.specs.Levels.{highest}
use Rattle.edb_world.specs.declared.world.World.{World}
use Rattle.edb_world.specs.declared.slices.Slice.{Slice}
use Rattle.edb_world.specs.Known.{Known, noted, coming, budget_of, running_at}
use Rattle.edb_world.specs.Turns.{IsSliceOf, told_end, told_entries}
use Rattle.edb_world.specs.Plans.{IsPlan}
use Rattle.edb_world.specs.Worlds.{IsKept, Keeps, IsLeased, IsEnding, HasEnded, Went}
use Rattle.edb_world.proofs.Growing.{grown, heavier, is_false}
use Rattle.edb_world.proofs.Turning.{agrees, begins, kept_more}
use Rattle.edb_world.proofs.Ends.{within_budget}
use Rattle.edb_world.proofs.Moves.{doing, slice_steps}
use Rattle.edb_world.proofs.Shallow.{shallow}
use Rattle.edb_world.proofs.Ending.{settled}

-- what becomes known of a process that has more to do is known of it
known_here : (f : Facts) (p : ℕ) (d : Debuggee) (t : Run) → length f.debuggees ≡ length f.plain.running → model.running_at f.plain p ≡ Some t
    → numbered unseen (with_numbered f.debuggees p d) p ≡ d
known_here f p d t same lives =
    let within = lives_within f.plain p t lives in let low = within.0 in let high = within.1 in
    with_within unseen f.debuggees p d low (omega (arith, high, same))

-- a lease is out alone where none was
only_out : (f : Facts) (p : ℕ) (d : Debuggee) → NoLease f → (q : ℕ) → (numbered unseen (with_numbered f.debuggees p d) q).is_out ≡ true → q ≡ p
only_out f p d none q out = by (with_or unseen f.debuggees p d q)
  where
    by : ((p ≡ q) × (numbered unseen (with_numbered f.debuggees p d) q ≡ d)) ⊎ (numbered unseen (with_numbered f.debuggees p d) q ≡ debuggee_at f q) → q ≡ p
    by (inl both) = sym both.0
    by (inr same) = absurd (both_ways _ (none q) (ap (λ (x : Debuggee). x.is_out) (sym same) ∙ out))

module _ (old new : World) (p : ℕ) (turn : turn_of old.state.facts p ≡ Some leases) (keeps : Keeps old) (none : NoLease old.state.facts)
    (may : May old.state.plan old.state.facts (entry.Lease p (budget_of old.state)))
    (state : new.state ≡ noted old.state (entry.Lease p (budget_of old.state)))
    (entries : new.journal.entries ≡ old.journal.entries ++ entry.Lease p (budget_of old.state) ∷ []) where
  abbrev E : Entry
  E = entry.Lease p (budget_of old.state)

  abbrev S : Known
  S = old.state

  abbrev its : Debuggee
  its = leased S.facts (budget_of S) (debuggee_at S.facts p)

  -- the world after a lease
  pub lease_keeps : Keeps new
  lease_keeps =
      record {
        kept = kept_more old new E keeps.kept may none state entries;
        whole = ap (λ (k : Known). k.facts.coming) state ∙ keeps.whole;
      }

  known_new : debuggee_at new.state.facts p ≡ its
  known_new =
      let ready = (leases_in S.facts p turn).ready in
      ap (λ (k : Known). debuggee_at k.facts p) state
      ∙ known_here S.facts p its ready.running (agrees S.plan old.journal.entries S.facts keeps.kept) ready.lives

  pub lease_leased : new.state.facts.weight < new.state.plan.weight_limit → IsLeased new p
  lease_leased light =
      let ready = (leases_in S.facts p turn).ready in
      record {
        keeps = lease_keeps;
        light = light;
        running = ready.running;
        lives = ap (λ (k : Known). running_at k p) state ∙ ready.lives;
        out = ap (λ (d : Debuggee). d.is_out) known_new;
        alone = λ q o. only_out S.facts p its none q (sym (ap (λ (k : Known). (debuggee_at k.facts q).is_out) state) ∙ o);
        budget = ap (λ (d : Debuggee). d.handout.budget) known_new ∙ sym (ap (λ (k : Known). min k.plan.slice_moves (k.plan.weight_limit - k.facts.weight)) state);
        versions = ap (λ (d : Debuggee). d.handout.versions) known_new ∙ sym (ap (λ (k : Known). k.facts.plain.versions) state);
      }

  -- a lease that reached the greatest weight
  pub lease_went : new.state.plan.weight_limit ≤ new.state.facts.weight → Went old new
  lease_went full =
      record {
        going = record { keeps = lease_keeps; free = λ light. absurd (omega (arith, full, light)) };
        plan = ap (λ (k : Known). k.plan) state;
        heavier = subst (λ (k : Known). S.facts.weight < k.facts.weight) (sym state) (heavier S.plan S.facts E);
      }

  pub lease_then : (last : World) → Went new last → Went old last
  lease_then last w =
      let more = subst (λ (k : Known). S.facts.weight < k.facts.weight) (sym state) (heavier S.plan S.facts E) in
      let behind = w.heavier in
      record { going = w.going; plan = w.plan ∙ ap (λ (k : Known). k.plan) state; heavier = omega (arith, more, behind) }

-- a lease of one move at least, and what it leaves of the weight
pub some_budget : (w : World) (p : ℕ) → IsPlan w.state.plan → IsLeased w p → 1 ≤ (debuggee_at w.state.facts p).handout.budget
some_budget w p plan l = let some = plan.slices in let light = l.light in rw l.budget (omega (arith, some, light))

pub light_budget : (w : World) (p : ℕ) → IsLeased w p → w.state.facts.weight + (debuggee_at w.state.facts p).handout.budget ≤ w.state.plan.weight_limit
light_budget w p l = let light = l.light in rw l.budget (omega (arith, light))

pub low_enough : (w : World) (p : ℕ) (t : Run) → IsLeased w p → running_at w.state p ≡ Some t → highest t ≤ w.state.facts.weight
low_enough w p t l lives =
    subst (λ (f : Facts). highest t ≤ f.weight) l.keeps.kept.facts
    (shallow w.state.plan w.journal.entries p t l.keeps.kept.legal
    (ap (λ (f : Facts). (model.running_at f.plain p)) l.keeps.kept.facts ∙ lives))

-- the entries of an end, as they are told
entries_told : (p : ℕ) (t : Run) (end : rules.SliceEnd) → end_entries p t end ≡ told_entries p t (told_end end)
entries_told p t rules.leaves = refl
entries_told p t rules.act_next = refl
entries_told p t (rules.enters None) = refl
entries_told p t (rules.enters (Some why)) = refl
entries_told p t (rules.stops why) = refl
entries_told p t rules.spent = refl

module _ (old new : World) (p : ℕ) (s : Slice) (l : IsLeased old p) (so : IsSliceOf old.state new.state p s)
    (entries : new.journal.entries ≡ old.journal.entries ++ entry.Ran p s.moves 0 ∷ []) where
  abbrev R : Entry
  R = entry.Ran p s.moves 0

  abbrev O : Known
  O = old.state

  -- the expression after the moves
  abbrev T : Run
  T = after_moves O.plan.code (debuggee_at O.facts p).handout.versions s.moves so.running

  abbrev ran_stands : May O.plan O.facts R
  ran_stands =
      record {
        rule = record { begin = begins old l.keeps l.light; out = l.out; running = so.running; lives = so.lives; versions = l.versions; end = so.end; slice = so.slice };
        plain = doing O.facts.plain p (after_moves O.plan.code O.facts.plain.versions s.moves so.running);
        enabled = slice_steps O.plan.code O.facts.plain (debuggee_at O.facts p).handout p s.moves 0 so.running so.end so.lives l.versions so.slice;
      }

  ran_coming : (note O.plan O.facts R).coming ≡ told_entries p T s.end
  ran_coming =
      coming_is O.plan O.facts p s.moves so.running so.end so.lives so.slice.ends
      ∙ (entries_told p T so.end ∙ ap (told_entries p T) (sym so.told))

  -- the state's facts with what is to come
  ran_facts : (coming (told_entries p T s.end) new.state).facts ≡ note O.plan O.facts R
  ran_facts =
      ap (λ (k : Known). (coming (told_entries p T s.end) k).facts) so.state
      ∙ settled (note O.plan O.facts R) (told_entries p T s.end) ran_coming

  pub ran_plan : new.state.plan ≡ old.state.plan
  ran_plan = ap (λ (k : Known). k.plan) so.state

  pub ran_weight : new.state.facts.weight ≡ O.facts.weight + max 1 (s.moves + 0)
  ran_weight = ap (λ (k : Known). k.facts.weight) so.state

  pub ran_moves : IsPlan O.plan → s.moves ≤ (debuggee_at O.facts p).handout.budget
  ran_moves plan = within_budget O.plan.code (debuggee_at O.facts p).handout p so.running s.moves 0 so.end (some_budget old p plan l) so.slice

  none_left : NoLease new.state.facts
  none_left q = is_false (debuggee_at new.state.facts q).is_out (λ o.
      let there : (debuggee_at (note O.plan O.facts R) q).is_out ≡ true = sym (ap (λ (k : Known). (debuggee_at k.facts q).is_out) so.state) ∙ o in
      let is : q ≡ p = l.alone q (none_new O.plan O.facts R ran_stands tt q there) in
      let here = known_here O.facts p (record (debuggee_at O.facts p) { is_out = false; is_resumed = (debuggee_at O.facts p).is_resumed && nat_eq s.moves 0 })
      so.running (agrees O.plan old.journal.entries O.facts l.keeps.kept) so.lives in
      both_ways false refl (sym (ap (λ (d : Debuggee). d.is_out) here) ∙ subst (λ (n : ℕ). (debuggee_at (note O.plan O.facts R) n).is_out ≡ true) is there))

  pub ran_ending : IsEnding new p T (told_entries p T s.end)
  ran_ending =
      record {
        lives = ap (λ (k : Known). running_at k p) so.state ∙ ran_lives O.plan O.facts p s.moves 0 ran_stands;
        awaits = record {
          kept = subst (λ (f : Facts). IsKept new.state.plan new.journal.entries f) (sym ran_facts)
              (subst (λ (q : Plan). IsKept q new.journal.entries (note O.plan O.facts R)) (sym ran_plan)
              (subst (λ (es : List Entry). IsKept O.plan es (note O.plan O.facts R)) (sym entries)
              (grown O.plan old.journal.entries O.facts R l.keeps.kept ran_stands tt)));
          whole = ap (λ (k : Known). k.facts.coming) so.state;
        };
        free = none_left;
      }

  -- after the entries that end it
  pub ended_went : (last : World) → HasEnded new last → Went old last
  ended_went last ended =
      let behind = ended.heavier in
      record {
        going = ended.going;
        plan = ended.plan ∙ ran_plan;
        heavier = omega (arith, behind, ran_weight);
      }
