-- The entries that end a slice: each may stand where it is to come, and what it leaves.

use Rattle.std.proofs.Common.{◌≡◌, ◌≤◌, ℕ, ◌+◌, List, [], ◌∷◌, ◌++◌, refl, sym, ◌∙◌, ap, subst, arith}
use Rattle.edb_model.specs.Running.{Run}
use Rattle.edb_model.specs.Plain.{Plain}
use Rattle.edb_model.specs.Plain as model
use Rattle.edb_event.specs.declared.entry.Cause.{Cause}
use Rattle.edb_event.specs.declared.entry.Entry.{Entry}
use Rattle.edb_event.specs.declared.entry.Entry.TheVariants as entry
use Rattle.edb_event.specs.Ranges.{IsEntry}
use Rattle.edb_event.specs.Weights.{weight, weight_of}
use Rattle.edb_rules.specs.Plans.{Plan}
use Rattle.edb_rules.specs.Facts.{Facts, debuggee_at}
use Rattle.edb_rules.specs.SliceEnds.{enter_entry}
use Rattle.edb_rules.specs.Notes.{note}
use Rattle.edb_rules.specs.Legal.{May, MayAlone, MayEnd}
use Rattle.edb_rules.proofs.Endings.{IsNoLease}
use Rattle.edb_world.specs.declared.world.World.{World}
use Rattle.edb_world.specs.Known.{Known, noted, coming, running_at}
use Rattle.edb_world.specs.declared.slices.SliceEnd.{SliceEnd}
use Rattle.edb_world.specs.Turns.{IsEndNoted, stopped_by, told_entries}
use Rattle.edb_world.specs.Plans.{IsPlan}
use Rattle.edb_world.specs.Worlds.{IsKept, Keeps, Awaits, IsEnding, IsEndBehind, HasEnded}
use Rattle.edb_world.proofs.Growing.{grown, free_after}
use Rattle.edb_world.proofs.Turning.{in_range, weighed}

-- an entry of an end stands where it is to come, weighs one, and changes no plain state
pub record IsEndEntry (e : Entry) : Type 0 where
  pub may : (plan : Plan) (f : Facts) → MayEnd f e → May plan f e
  pub alone : (plan : Plan) (f : Facts) → MayAlone plan f e
  pub one : weight_of e ≡ 1
  pub plain : (plan : Plan) (f : Facts) → (note plan f e).plain ≡ f.plain
  pub other : IsNoLease e

pub leave_is : (p : ℕ) → IsEndEntry (entry.Leave p)
leave_is p = record {
  may = λ plan f end. record { rule = end; plain = f.plain; enabled = refl };
  alone = λ plan f. tt;
  one = refl;
  plain = λ plan f. refl;
  other = tt;
}

pub enter_is : (p : ℕ) (t : Run) → IsEndEntry (enter_entry p t)
enter_is p t = record {
  may = λ plan f end. record { rule = end; plain = f.plain; enabled = refl };
  alone = λ plan f. tt;
  one = refl;
  plain = λ plan f. refl;
  other = tt;
}

pub stop_is : (p : ℕ) (by : Cause) (t : Run) → IsEndEntry (stopped_by p by t)
stop_is p by t = record {
  may = λ plan f end. record { rule = end; plain = f.plain; enabled = refl };
  alone = λ plan f. tt;
  one = refl;
  plain = λ plan f. refl;
  other = tt;
}

module _ (w : World) (p : ℕ) (t : Run) (e : Entry) (rest : List Entry) (ending : IsEnding w p t (e ∷ rest)) (is : IsEndEntry e) where
  abbrev its_facts : Facts
  its_facts = (coming (e ∷ rest) w.state).facts

  its_may : May w.state.plan its_facts e
  its_may = is.may w.state.plan its_facts (rest, refl)

  -- it is in range
  pub end_range : IsPlan w.state.plan → IsEntry e
  end_range plan = in_range w.state.plan w.journal.entries its_facts e plan ending.awaits.kept its_may

  pub end_weighed : weight w.journal.entries ≡ w.state.facts.weight
  end_weighed = weighed w.state.plan w.journal.entries its_facts ending.awaits.kept

  -- what it leaves
  pub ended_one : (new : World) → IsEndNoted w.state new.state e → new.journal.entries ≡ w.journal.entries ++ e ∷ [] → IsEndBehind w new p t rest
  ended_one new state entries =
      let k : coming [] new.state ≡ noted (coming (e ∷ []) w.state) e = state.1 [] in
      let before = (coming (e ∷ []) w.state).facts in
      record {
        ending = record {
          lives = ap (λ (x : Known). running_at x p) k ∙ (ap (λ (s : Plain). model.running_at s p) (is.plain w.state.plan before) ∙ ending.lives);
          awaits = record {
            kept = subst (λ (x : Known). IsKept x.plan new.journal.entries x.facts) (sym (state.1 rest))
                (subst (λ (es : List Entry). IsKept w.state.plan es (note w.state.plan its_facts e)) (sym entries)
                (grown w.state.plan w.journal.entries its_facts e ending.awaits.kept its_may (is.alone w.state.plan its_facts)));
            whole = state.0;
          };
          free = λ q. ap (λ (x : Known). (debuggee_at x.facts q).is_out) k
              ∙ free_after w.state.plan before e ending.free (is.may w.state.plan before ([], refl)) is.other q;
        };
        plan = ap (λ (x : Known). x.plan) k;
        heavier = ap (λ (x : Known). x.facts.weight) k ∙ ap (λ (n : ℕ). w.state.facts.weight + n) is.one;
      }

-- facts without entries to come
pub settled : (f : Facts) (es : List Entry) → f.coming ≡ es → record f { coming = es } ≡ f
settled f es is = ap (λ (xs : List Entry). record f { coming = xs }) (sym is)

awaits_none : (w : World) → Awaits w [] → Keeps w
awaits_none w a =
    record {
      kept = subst (λ (f : Facts). IsKept w.state.plan w.journal.entries f) (settled w.state.facts [] a.whole) a.kept;
      whole = a.whole;
    }

-- the whole end was kept
pub has_ended : (old new : World) (p : ℕ) (t : Run) → IsEnding new p t [] → new.state.plan ≡ old.state.plan → old.state.facts.weight ≤ new.state.facts.weight → HasEnded old new
has_ended old new p t ending plan more =
    record { going = record { keeps = awaits_none new ending.awaits; free = λ light. ending.free }; plan = plan; heavier = more }

pub ended_so : (old new : World) (p : ℕ) (t : Run) → IsEndBehind old new p t [] → HasEnded old new
ended_so old new p t behind = has_ended old new p t behind.ending behind.plan (let more = behind.heavier in omega (arith, more))

pub keeps_one : (old new : List Entry) (d e : Entry) → new ≡ old ++ d ∷ [] → d ≡ e → new ≡ old ++ e ∷ []
keeps_one old new d e is same = is ∙ ap (λ (x : Entry). old ++ x ∷ []) same

-- what is to come, by the end that is told
pub ending_at : (w : World) (p : ℕ) (x y : SliceEnd) (ending : (t : Run) × IsEnding w p t (told_entries p t x)) → x ≡ y → IsEnding w p ending.0 (told_entries p ending.0 y)
ending_at w p x y ending is = subst (λ (z : SliceEnd). IsEnding w p ending.0 (told_entries p ending.0 z)) is ending.1

pub ended_two : (old mid new : World) (p : ℕ) (t : Run) (rest : List Entry) → IsEndBehind old mid p t rest → IsEndBehind mid new p t [] → HasEnded old new
ended_two old mid new p t rest first second =
    has_ended old new p t second.ending (second.plan ∙ first.plan) (let one = first.heavier in let two = second.heavier in omega (arith, one, two))
