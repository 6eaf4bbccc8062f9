-- A process that stopped in a legal journal has no turn before it is let go on, and makes a move before it stops again.

use Rattle.std.proofs.Common.{◌≡◌, ◌⊎◌, inl, inr, ℕ, zero, suc, ◌<◌, Bool, true, false, if◌then◌else◌, ◌&&◌, nat_eq, List, Some, take, refl, sym, ◌∙◌, ap, subst, arith}
use Rattle.std.specs.List.{slice_get}
use Rattle.std.proofs.lemmas.Bool.{both_ways, eq-eqb}
use Rattle.std.proofs.lemmas.Option.{slice_get_within}
use Rattle.edb_event.specs.declared.call.Call.{Call}
use Rattle.edb_event.specs.declared.call.Call.TheVariants as command
use Rattle.edb_event.specs.declared.reply.Reply.{Reply}
use Rattle.edb_event.specs.declared.entry.Cause.{Cause}
use Rattle.edb_event.specs.declared.entry.Entry.{Entry}
use Rattle.edb_event.specs.declared.entry.Entry.TheVariants as entry
use Rattle.edb_rules.specs.Plans.{Plan}
use Rattle.edb_rules.specs.Facts.{Debuggee, Facts, debuggee_at}
use Rattle.edb_rules.specs.Replies.{is_served, is_accepted}
use Rattle.edb_rules.specs.Orders.{order_of, ordered_process, with_order}
use Rattle.edb_rules.specs.Notes.{process_in, debuggee_with, note, facts}
use Rattle.edb_rules.specs.Legal.{IsLeasedAgain, MayLease, May, Legal}
use Rattle.edb_rules.specs.Turns.{leases, turn_of}
use Rattle.edb_rules.specs.Halts.{resumed_process}
use Rattle.edb_rules.specs.Between.{StandsBetween, IsTurnOf, Resumes, HasMoves}
use Rattle.edb_rules.proofs.Entries.{may_at}
use Rattle.edb_rules.proofs.Between.{facts_next, since}
use Rattle.edb_rules.proofs.Changes.{Changed, IsKept, changed_or, order_keeps, act_keeps}
use Rattle.edb_rules.proofs.Present.{lives_known, holds_at, exact}
use Rattle.edb_rules.proofs.Entries.{legal_take}
use Rattle.edb_rules.proofs.Turning.{leases_in, acts_in}
use Rattle.edb_rules.proofs.Fresh.{no_lease_out, moved_since}
use Rattle.edb_rules.proofs.Stops.{stands_before}

-- STOPPED: while a process is, it has no turn.
abbrev IsStopped : ℕ → Facts → Type 0
IsStopped p f = ((debuggee_at f p).is_stopped ≡ true) × ((debuggee_at f p).is_out ≡ false)

-- what an entry of the process itself leaves
abbrev Left : ℕ → Facts → Entry → Debuggee → Type 0
Left p f e d = ((d.is_stopped ≡ true) × (d.is_out ≡ false)) ⊎ Resumes p e

no_turn_here : (plan : Plan) (f : Facts) (q b : ℕ) → MayLease plan f q b → (debuggee_at f q).is_stopped ≡ true → (debuggee_at f q).is_out ≡ false → ⊥
no_turn_here plan f q b may stopped out = by may.turn
  where
    by : (turn_of f q ≡ Some leases) ⊎ IsLeasedAgain f q → ⊥
    by (inl turn) = both_ways _ (leases_in f q turn).ready.goes stopped
    by (inr again) = both_ways _ out again.out

stopped_order : (f : Facts) (c : ℕ) (x : Call) (r : Reply) (p : ℕ) (d : Debuggee) → is_served x ≡ true → is_accepted r ≡ true → ordered_process x ≡ p
    → d.is_stopped ≡ true → d.is_out ≡ false → ((with_order (order_of f.plain x) d).is_stopped ≡ true) × ((with_order (order_of f.plain x) d).is_out ≡ false) ⊎ (resumed_process x ≡ p)
stopped_order f c (command.Continue q) r p d known accepted is stopped out = inr is
stopped_order f c (command.Step q) r p d known accepted is stopped out = absurd (both_ways false refl known)
stopped_order f c (command.Next q) r p d known accepted is stopped out = absurd (both_ways false refl known)
stopped_order f c (command.Finish q) r p d known accepted is stopped out = absurd (both_ways false refl known)
stopped_order f c (command.Halt q) r p d known accepted is stopped out = absurd (both_ways false refl known)
stopped_order f c _ r p d known accepted is stopped out = inl (stopped, out)

never_zero : (f : Facts) (p : ℕ) → 0 ≡ p → (debuggee_at f p).is_stopped ≡ true → ⊥
never_zero f p zero_is stopped = both_ways false refl (subst (λ (n : ℕ). (debuggee_at f n).is_stopped ≡ true) (sym zero_is) stopped)

served_left : (f : Facts) (c : ℕ) (x : Call) (r : Reply) (p : ℕ) (a : Bool) → is_accepted r ≡ a → is_served x ≡ true → process_in (entry.Served c x r) ≡ p → IsStopped p f
    → Left p f (entry.Served c x r) (debuggee_with f (entry.Served c x r) (debuggee_at f p))
served_left f c x r p true is known same stopped =
    let its : ordered_process x ≡ p = (let here : process_in (entry.Served c x r) ≡ ordered_process x = rw is refl in sym here ∙ same) in
    elim (stopped_order f c x r p (debuggee_at f p) known is its stopped.0 stopped.1) [
      | inl both ↦ inl both
      | inr resumed ↦ inr (is, resumed)
    ]
served_left f c x r p false is known same stopped =
    absurd (never_zero f p (let here : process_in (entry.Served c x r) ≡ 0 = rw is refl in sym here ∙ same) stopped.0)

left : (plan : Plan) (f : Facts) (e : Entry) (p : ℕ) → May plan f e → process_in e ≡ p → IsStopped p f → Left p f e (debuggee_with f e (debuggee_at f p))
left plan f (entry.Start c q m n args) p may same stopped = absurd (never_zero f p same stopped.0)
left plan f (entry.Load c m v) p may same stopped = absurd (never_zero f p same stopped.0)
left plan f (entry.Skip c q) p may same stopped = absurd may.rule
left plan f (entry.Kill c q) p may same stopped = absurd may.rule
left plan f (entry.Expire c q) p may same stopped = absurd may.rule
left plan f (entry.Lease q b) p may same stopped =
    absurd (no_turn_here plan f q b may.rule (subst (λ (n : ℕ). (debuggee_at f n).is_stopped ≡ true) (sym same) stopped.0) (subst (λ (n : ℕ). (debuggee_at f n).is_out ≡ false) (sym same) stopped.1))
left plan f (entry.Ran q n c) p may same stopped = absurd (both_ways _ (subst (λ (m : ℕ). (debuggee_at f m).is_out ≡ false) (sym same) stopped.1) may.rule.out)
left plan f (entry.Ask q k) p may same stopped = absurd may.rule
left plan f (entry.Did q k v bytes) p may same stopped =
    absurd (both_ways _ (acts_in f q may.rule.act may.rule.turn).ready.goes (subst (λ (n : ℕ). (debuggee_at f n).is_stopped ≡ true) (sym same) stopped.0))
left plan f (entry.Took q) p may same stopped = absurd may.rule
left plan f (entry.Forward q) p may same stopped = absurd may.rule
left plan f (entry.Leave q) p may same stopped = inl stopped
left plan f (entry.Enter q m n a) p may same stopped = inl stopped
left plan f (entry.Signal q r) p may same stopped = absurd may.rule
left plan f (entry.Advance t) p may same stopped = absurd (never_zero f p same stopped.0)
left plan f (entry.Stop q m l n by) p may same stopped = inl (refl, stopped.1)
left plan f (entry.Trigger q m l s a applied) p may same stopped = inl stopped
left plan f (entry.Served c x r) p may same stopped = served_left f c x r p (is_accepted r) refl may.rule.known same stopped

stopped_step : (plan : Plan) (p : ℕ) (f : Facts) (e : Entry) → IsStopped p f → May plan f e → IsStopped p (note plan f e) ⊎ Resumes p e
stopped_step plan p f e stopped may = by (changed_or plan f e p)
  where
    d : Debuggee
    d = debuggee_at (note plan f e) p

    of_left : d ≡ debuggee_with f e (debuggee_at f p) → Left p f e (debuggee_with f e (debuggee_at f p)) → IsStopped p (note plan f e) ⊎ Resumes p e
    of_left is (inl both) = inl (ap (λ (x : Debuggee). x.is_stopped) is ∙ both.0, ap (λ (x : Debuggee). x.is_out) is ∙ both.1)
    of_left is (inr resumed) = inr resumed

    of_kept : IsKept (debuggee_at f p) d → IsStopped p (note plan f e) ⊎ Resumes p e
    of_kept (inl is) = inl (ap (λ (x : Debuggee). x.is_stopped) is ∙ stopped.0, ap (λ (x : Debuggee). x.is_out) is ∙ stopped.1)
    of_kept (inr is) = inl (ap (λ (x : Debuggee). x.is_stopped) is ∙ stopped.0, ap (λ (x : Debuggee). x.is_out) is ∙ stopped.1)

    by : Changed f e p d → IsStopped p (note plan f e) ⊎ Resumes p e
    by (inl both) = of_left both.1 (left plan f e p may both.0 stopped)
    by (inr kept) = of_kept kept

-- behind its Stop a process is as the Stop leaves it
pub stop_exact : (plan : Plan) (journal : List Entry) (k p : ℕ) (m : List ℕ) (l n : ℕ) (by : Cause) → Legal plan journal → slice_get journal k ≡ Some (entry.Stop p m l n by)
    → debuggee_at (facts plan (take (suc k) journal)) p ≡ debuggee_with (facts plan (take k journal)) (entry.Stop p m l n by) (debuggee_at (facts plan (take k journal)) p)
stop_exact plan journal k p m l n by legal at =
    let f = facts plan (take k journal) in
    let e = entry.Stop p m l n by in
    let there = stands_before plan journal k p m l n by legal at in
    let holds = holds_at plan (take k journal) (legal_take plan journal k legal) in
    let here = lives_known f p there.running holds.agree there.lives in
    let same : nat_eq p p ≡ true = eq-eqb p p refl in
    ap (λ (g : Facts). debuggee_at g p) (facts_next plan journal k e at)
    ∙ (exact plan f e p (may_at plan journal k e legal at) here
    ∙ ap (λ (b : Bool). if b then debuggee_with f e (debuggee_at f p) else debuggee_at f p) same)

stopped_at : (plan : Plan) (journal : List Entry) (k p : ℕ) (m : List ℕ) (l n : ℕ) (by : Cause) → Legal plan journal → slice_get journal k ≡ Some (entry.Stop p m l n by)
    → IsStopped p (facts plan (take (suc k) journal))
stopped_at plan journal k p m l n by legal at =
    let is = stop_exact plan journal k p m l n by legal at in
    (ap (λ (d : Debuggee). d.is_stopped) is, ap (λ (d : Debuggee). d.is_out) is ∙ no_lease_out plan journal k p m l n by legal at)

-- no turn of a stopped process
turn_none : (plan : Plan) (f : Facts) (e : Entry) (p : ℕ) → May plan f e → IsTurnOf p e → IsStopped p f → ⊥
turn_none plan f (entry.Lease q b) p may is stopped =
    no_turn_here plan f q b may.rule (subst (λ (n : ℕ). (debuggee_at f n).is_stopped ≡ true) (sym is) stopped.0) (subst (λ (n : ℕ). (debuggee_at f n).is_out ≡ false) (sym is) stopped.1)
turn_none plan f (entry.Did q k v bytes) p may is stopped =
    both_ways _ (acts_in f q may.rule.act may.rule.turn).ready.goes (subst (λ (n : ℕ). (debuggee_at f n).is_stopped ≡ true) (sym is) stopped.0)
turn_none plan f (entry.Ask q k) p may is stopped = may.rule
turn_none plan f (entry.Took q) p may is stopped = may.rule
turn_none plan f (entry.Forward q) p may is stopped = may.rule
turn_none plan f _ p may is stopped = is

pub no_turn : (plan : Plan) (journal : List Entry) (k p : ℕ) (m : List ℕ) (l n : ℕ) (by : Cause) (j : ℕ) (e : Entry) → Legal plan journal
    → slice_get journal k ≡ Some (entry.Stop p m l n by) → k < j → slice_get journal j ≡ Some e → IsTurnOf p e → StandsBetween (Resumes p) journal k j
no_turn plan journal k p m l n by j e legal first less second turn =
    let inside = slice_get_within journal j e second in
    by_or (since plan journal (IsStopped p) (Resumes p) (stopped_step plan p) legal k j less (omega arith) (stopped_at plan journal k p m l n by legal first))
  where
    by_or : IsStopped p (facts plan (take j journal)) ⊎ StandsBetween (Resumes p) journal k j → StandsBetween (Resumes p) journal k j
    by_or (inl stopped) = absurd (turn_none plan (facts plan (take j journal)) e p (may_at plan journal j e legal second) turn stopped)
    by_or (inr between) = between

-- RESUMED: a process that stopped makes a move before it stops again.
abbrev IsStill : ℕ → Facts → Type 0
IsStill p f = (debuggee_at f p).is_resumed ≡ true

still_with : (plan : Plan) (f : Facts) (e : Entry) (p : ℕ) (d : Debuggee) → May plan f e → process_in e ≡ p → d.is_resumed ≡ true
    → ((debuggee_with f e d).is_resumed ≡ true) ⊎ HasMoves p e
still_with plan f (entry.Ran q zero c) p d may same still = inl (ap (λ (b : Bool). b && nat_eq 0 0) still)
still_with plan f (entry.Ran q (suc n) c) p d may same still = inr (same, omega arith)
still_with plan f (entry.Did q k v bytes) p d may same still = inl (act_keeps (λ (x : Debuggee). x.is_resumed) (λ x b. refl) (λ x. refl) k d ∙ still)
still_with plan f (entry.Served c x r) p d may same still = inl (order_keeps (λ (y : Debuggee). y.is_resumed) (λ y m. refl) (λ y m. refl) (order_of f.plain x) d ∙ still)
still_with plan f (entry.Stop q m l n by) p d may same still = inl refl
still_with plan f (entry.Skip c q) p d may same still = absurd may.rule
still_with plan f (entry.Kill c q) p d may same still = absurd may.rule
still_with plan f (entry.Signal q r) p d may same still = absurd may.rule
still_with plan f _ p d may same still = inl still

still_step : (plan : Plan) (p : ℕ) (f : Facts) (e : Entry) → IsStill p f → May plan f e → IsStill p (note plan f e) ⊎ HasMoves p e
still_step plan p f e still may = by (changed_or plan f e p)
  where
    d : Debuggee
    d = debuggee_at (note plan f e) p

    of_with : d ≡ debuggee_with f e (debuggee_at f p) → ((debuggee_with f e (debuggee_at f p)).is_resumed ≡ true) ⊎ HasMoves p e → IsStill p (note plan f e) ⊎ HasMoves p e
    of_with is (inl here) = inl (ap (λ (x : Debuggee). x.is_resumed) is ∙ here)
    of_with is (inr moves) = inr moves

    of_kept : IsKept (debuggee_at f p) d → IsStill p (note plan f e) ⊎ HasMoves p e
    of_kept (inl is) = inl (ap (λ (x : Debuggee). x.is_resumed) is ∙ still)
    of_kept (inr is) = inl (ap (λ (x : Debuggee). x.is_resumed) is ∙ still)

    by : Changed f e p d → IsStill p (note plan f e) ⊎ HasMoves p e
    by (inl both) = of_with both.1 (still_with plan f e p (debuggee_at f p) may both.0 still)
    by (inr kept) = of_kept kept

pub a_move : (plan : Plan) (journal : List Entry) (p k : ℕ) (m : List ℕ) (l n : ℕ) (by : Cause) (j : ℕ) (m₂ : List ℕ) (l₂ n₂ : ℕ) (by₂ : Cause) → Legal plan journal
    → slice_get journal k ≡ Some (entry.Stop p m l n by) → slice_get journal j ≡ Some (entry.Stop p m₂ l₂ n₂ by₂) → k < j → StandsBetween (HasMoves p) journal k j
a_move plan journal p k m l n by j m₂ l₂ n₂ by₂ legal first second less =
    let inside = slice_get_within journal j _ second in
    let start : IsStill p (facts plan (take (suc k) journal)) = ap (λ (d : Debuggee). d.is_resumed) (stop_exact plan journal k p m l n by legal first) in
    by_or (since plan journal (IsStill p) (HasMoves p) (still_step plan p) legal k j less (omega arith) start)
  where
    by_or : IsStill p (facts plan (take j journal)) ⊎ StandsBetween (HasMoves p) journal k j → StandsBetween (HasMoves p) journal k j
    by_or (inl still) = absurd (both_ways _ (moved_since plan journal j p m₂ l₂ n₂ by₂ legal second) still)
    by_or (inr between) = between
