-- A lease: what it makes of the state, and that its entry may stand.

use Rattle.std.proofs.Common.{◌≡◌, inl, ℕ, zero, suc, ◌+◌, ◌-◌, ◌≤◌, true, false, not, ◌&&◌, ◌||◌, Option, None, Some, IsSome, unwrap_or, slice_set, refl, sym, ◌∙◌, subst, arith}
use Rattle.edb_event.specs.declared.entry.Entry.TheVariants as entry
use Rattle.edb_rules.specs.Facts.{Handout, Debuggee, Facts, debuggee_at}
use Rattle.edb_rules.specs.Turns.{leases, turn_of, IsFirst}
use Rattle.edb_rules.specs.Ranks.{AtTurn}
use Rattle.edb_rules.specs.Notes.{handout_now}
use Rattle.edb_rules.specs.Legal.{May}
use Rattle.edb_rules.proofs.Turning.{leases_in}
use Rattle.edb_model.specs.Running.{Run}
use Rattle.edb_model.specs.Plain.{running_at}
use Rattle.edb_world.specs.Known.{Known, noted, budget_of}

-- a process that took this in
abbrev pub taking : Debuggee → Handout → Debuggee
taking d h =
    record d {
      handout = h;
      is_out = true;
      was_leased_again = d.was_leased_again || (d.is_out && not d.was_crossed);
      was_crossed = false;
      mode = unwrap_or d.order d.mode;
      order = None;
    }

pub lease_noted : (k new : Known) (p b : ℕ) (d e : Debuggee) (h : Handout) → 1 ≤ p → debuggee_at k.facts p ≡ d
    → h ≡ handout_now k.facts b (debuggee_at k.facts p) → e ≡ taking d h → k.facts.has_quit ≡ false
    → new ≡ record k { facts = record k.facts { debuggees = slice_set k.facts.debuggees (p - 1) e; turn = p; weight = k.facts.weight + 1 } }
    → new ≡ noted k (entry.Lease p b)
lease_noted k new zero b d e h some known made after open_ same = absurd (omega (arith, some))
lease_noted k new (suc i) b d e h some known made after open_ same =
    let back : suc i - 1 ≡ i = omega arith in
    same ∙ rw (back, after, made, ← known, open_) refl

pub lease_may : (k : Known) (p : ℕ) → AtTurn k.plan k.facts → IsFirst k.facts p → turn_of k.facts p ≡ Some leases → May k.plan k.facts (entry.Lease p (budget_of k))
lease_may k p at first turn =
    record { rule = record { at = at; first = first; turn = inl turn; allowed = refl }; plain = k.facts.plain; enabled = refl }

pub lease_lives : (f : Facts) (p : ℕ) → turn_of f p ≡ Some leases → IsSome (running_at f.plain p)
lease_lives f p turn = let ready = (leases_in f p turn).ready in subst (λ (o : Option Run). IsSome o) (sym ready.lives) refl
