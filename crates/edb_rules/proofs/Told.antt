-- What is known of a process is told by a journal's entries alone: whether it is interpreted, and whether it is stopped.

use Rattle.std.proofs.Common.{◌≡◌, inl, inr, ◌≤◌, ℕ, zero, suc, Bool, true, false, if◌then◌else◌, ◌&&◌, nat_eq, List, refl, sym, ◌∙◌, ap, arith}
use Rattle.std.specs.List.{fold}
use Rattle.std.proofs.lemmas.Bool.{both_ways, ne_eqb}
use Rattle.edb_lang.specs.declared.act.ActKind.{ActKind}
use Rattle.edb_lang.specs.declared.act.ActKind.TheVariants as kind
use Rattle.edb_frames.specs.declared.mode.Mode.{Mode}
use Rattle.edb_frames.specs.declared.mode.Mode.TheVariants.{Run as RunOn}
use Rattle.edb_event.specs.declared.call.Call.{Call}
use Rattle.edb_event.specs.declared.call.Call.TheVariants as command
use Rattle.edb_event.specs.declared.reply.Reply.{Reply}
use Rattle.edb_event.specs.declared.entry.Entry.{Entry}
use Rattle.edb_event.specs.declared.entry.Entry.TheVariants as entry
use Rattle.edb_rules.specs.Plans.{Plan}
use Rattle.edb_rules.specs.Facts.{Debuggee, Facts, at_first, unseen, debuggee_at}
use Rattle.edb_rules.specs.Replies.{is_served, is_accepted}
use Rattle.edb_rules.specs.Orders.{resumes, order_of, ordered_process, with_order}
use Rattle.edb_rules.specs.Notes.{process_in, debuggee_with, acted_debuggee, note, facts}
use Rattle.edb_rules.specs.Legal.{May, Legal}
use Rattle.edb_rules.specs.Inside.{is_end, inside_with, is_inside_by}
use Rattle.edb_rules.specs.Halts.{resumed_process, stopped_with, is_stopped_by}
use Rattle.edb_rules.proofs.Between.{folded}
use Rattle.edb_rules.proofs.Kept.{no_load, no_advance}
use Rattle.edb_rules.proofs.Changes.{order_keeps}
use Rattle.edb_rules.proofs.Present.{Holds, holds_step, first_holds, HasNone, none_is, present, exact, none_changed}

-- A part of what is known of process q is what a fold over the entries makes, if the fold does at each entry what the entry
-- does to its process.
module _ {A : Type 0} (q : ℕ) (h : Debuggee → A) (step : A → Entry → A)
    (its : (plan : Plan) (f : Facts) (e : Entry) (d : Debuggee) → May plan f e → 1 ≤ process_in e → (if nat_eq (process_in e) q then h (debuggee_with f e d) else h d) ≡ step (h d) e)
    (none : (plan : Plan) (f : Facts) (e : Entry) → May plan f e → HasNone e → h (debuggee_at f q) ≡ step (h (debuggee_at f q)) e) where
  part_of : (b : Bool) (x y : Debuggee) → h (if b then x else y) ≡ (if b then h x else h y)
  part_of true x y = refl
  part_of false x y = refl

  told_step : (plan : Plan) (f : Facts) (e : Entry) → Holds f → May plan f e → h (debuggee_at (note plan f e) q) ≡ step (h (debuggee_at f q)) e
  told_step plan f e holds may = elim (present plan f e holds may) [
    | inl here ↦ ap h (exact plan f e q may here) ∙ (part_of (nat_eq (process_in e) q) _ _ ∙ its plan f e (debuggee_at f q) may here.0)
    | inr has ↦ ap h (none_changed plan f e q may (none_is e has)) ∙ none plan f e may has
  ]

  pub told : (plan : Plan) (journal : List Entry) → Legal plan journal → h (debuggee_at (facts plan journal) q) ≡ fold step (h (debuggee_at (at_first plan) q)) journal
  told plan journal legal = folded plan (λ f. h (debuggee_at f q)) step Holds (holds_step plan) (told_step plan) (at_first plan) journal (first_holds plan) legal

same_both : {A : Type 0} (b : Bool) (x y : A) → x ≡ y → (if b then x else y) ≡ y
same_both true x y e = e
same_both false x y e = refl

-- Interpreted.
act_inside : (b : Bool) (k : ActKind) (d : Debuggee) → (if b then (acted_debuggee k d).is_interpreted else d.is_interpreted) ≡ (if b && is_end k then false else d.is_interpreted)
act_inside true kind.End d = refl
act_inside true kind.Wait d = refl
act_inside true _ d = refl
act_inside false k d = refl

served_inside : (f : Facts) (x : Call) (d : Debuggee) → (with_order (order_of f.plain x) d).is_interpreted ≡ d.is_interpreted
served_inside f x d = order_keeps (λ (e : Debuggee). e.is_interpreted) (λ e m. refl) (λ e m. refl) (order_of f.plain x) d

inside_its : (q : ℕ) (plan : Plan) (f : Facts) (e : Entry) (d : Debuggee) → May plan f e → 1 ≤ process_in e
    → (if nat_eq (process_in e) q then (debuggee_with f e d).is_interpreted else d.is_interpreted) ≡ inside_with q d.is_interpreted e
inside_its q plan f (entry.Start c p m n args) d may has = same_both (nat_eq 0 q) _ _ refl
inside_its q plan f (entry.Load c m v) d may has = absurd (no_load plan f c m v may)
inside_its q plan f (entry.Skip c p) d may has = absurd may.rule
inside_its q plan f (entry.Kill c p) d may has = absurd may.rule
inside_its q plan f (entry.Expire c p) d may has = absurd may.rule
inside_its q plan f (entry.Lease p b) d may has = same_both (nat_eq p q) _ _ refl
inside_its q plan f (entry.Ran p n c) d may has = same_both (nat_eq p q) _ _ refl
inside_its q plan f (entry.Ask p k) d may has = absurd may.rule
inside_its q plan f (entry.Did p k v bytes) d may has = act_inside (nat_eq p q) k d
inside_its q plan f (entry.Took p) d may has = absurd may.rule
inside_its q plan f (entry.Forward p) d may has = absurd may.rule
inside_its q plan f (entry.Leave p) d may has = refl
inside_its q plan f (entry.Enter p m n a) d may has = refl
inside_its q plan f (entry.Signal p r) d may has = absurd may.rule
inside_its q plan f (entry.Advance t) d may has = absurd (no_advance plan f t may)
inside_its q plan f (entry.Stop p m l n by) d may has = same_both (nat_eq p q) _ _ refl
inside_its q plan f (entry.Trigger p m l s a applied) d may has = same_both (nat_eq p q) _ _ refl
inside_its q plan f (entry.Served c x r) d may has = same_both (nat_eq (process_in (entry.Served c x r)) q) _ _ (served_inside f x d)

inside_none : (q : ℕ) (plan : Plan) (f : Facts) (e : Entry) → May plan f e → HasNone e → (debuggee_at f q).is_interpreted ≡ inside_with q (debuggee_at f q).is_interpreted e
inside_none q plan f (entry.Start c p m n args) may none = refl
inside_none q plan f (entry.Load c m v) may none = refl
inside_none q plan f (entry.Advance t) may none = refl
inside_none q plan f (entry.Served c x r) may none = refl
inside_none q plan f _ may none = absurd none

first_false : (h : Debuggee → Bool) → h unseen ≡ false → (plan : Plan) (q : ℕ) → h (debuggee_at (at_first plan) q) ≡ false
first_false h is plan zero = is
first_false h is plan (suc n) = is

pub inside_is : (plan : Plan) (journal : List Entry) (q : ℕ) → Legal plan journal → (debuggee_at (facts plan journal) q).is_interpreted ≡ is_inside_by q journal
inside_is plan journal q legal =
    told q (λ (d : Debuggee). d.is_interpreted) (inside_with q) (inside_its q) (inside_none q) plan journal legal
    ∙ ap (λ (b : Bool). fold (inside_with q) b journal) (first_false (λ (d : Debuggee). d.is_interpreted) refl plan q)

-- Stopped.
act_stopped : (b : Bool) (k : ActKind) (d : Debuggee) → (if b then (acted_debuggee k d).is_stopped else d.is_stopped) ≡ (if b && is_end k then false else d.is_stopped)
act_stopped true kind.End d = refl
act_stopped true kind.Wait d = refl
act_stopped true _ d = refl
act_stopped false k d = refl

-- the process that a command lets go on is no more stopped
pub resumed_stopped : (m : Mode) (d : Debuggee) (b : Bool) → d.is_stopped ≡ b → (with_order (resumes m) d).is_stopped ≡ false
resumed_stopped m d true is = rw is refl
resumed_stopped m d false is = rw is refl

resumed_if : (b : Bool) (m : Mode) (d : Debuggee) → (if b then (with_order (resumes m) d).is_stopped else d.is_stopped) ≡ (if b then false else d.is_stopped)
resumed_if true m d = resumed_stopped m d d.is_stopped refl
resumed_if false m d = refl

ordered_stopped : (q : ℕ) (f : Facts) (x : Call) (d : Debuggee) → is_served x ≡ true → 1 ≤ ordered_process x
    → (if nat_eq (ordered_process x) q then (with_order (order_of f.plain x) d).is_stopped else d.is_stopped) ≡ (if nat_eq (resumed_process x) q then false else d.is_stopped)
ordered_stopped q f (command.Continue p) d known has = resumed_if (nat_eq p q) RunOn d
ordered_stopped q f (command.Step p) d known has = absurd (both_ways false refl known)
ordered_stopped q f (command.Next p) d known has = absurd (both_ways false refl known)
ordered_stopped q f (command.Finish p) d known has = absurd (both_ways false refl known)
ordered_stopped q f (command.Halt p) d known has = absurd (both_ways false refl known)
ordered_stopped q f _ d known has = absurd (omega arith)

served_stopped : (q : ℕ) (f : Facts) (c : ℕ) (x : Call) (r : Reply) (d : Debuggee) (a : Bool) → is_accepted r ≡ a → is_served x ≡ true → 1 ≤ process_in (entry.Served c x r)
    → (if nat_eq (process_in (entry.Served c x r)) q then (with_order (order_of f.plain x) d).is_stopped else d.is_stopped) ≡ stopped_with q d.is_stopped (entry.Served c x r)
served_stopped q f c x r d true is known has =
    let at : 1 ≤ ordered_process x = (let same : process_in (entry.Served c x r) ≡ ordered_process x = rw is refl in omega arith) in
    rw is (ordered_stopped q f x d known at)
served_stopped q f c x r d false is known has = absurd (let same : process_in (entry.Served c x r) ≡ 0 = rw is refl in omega arith)

stopped_its : (q : ℕ) (plan : Plan) (f : Facts) (e : Entry) (d : Debuggee) → May plan f e → 1 ≤ process_in e
    → (if nat_eq (process_in e) q then (debuggee_with f e d).is_stopped else d.is_stopped) ≡ stopped_with q d.is_stopped e
stopped_its q plan f (entry.Start c p m n args) d may has = same_both (nat_eq 0 q) _ _ refl
stopped_its q plan f (entry.Load c m v) d may has = absurd (no_load plan f c m v may)
stopped_its q plan f (entry.Skip c p) d may has = absurd may.rule
stopped_its q plan f (entry.Kill c p) d may has = absurd may.rule
stopped_its q plan f (entry.Expire c p) d may has = absurd may.rule
stopped_its q plan f (entry.Lease p b) d may has = same_both (nat_eq p q) _ _ refl
stopped_its q plan f (entry.Ran p n c) d may has = same_both (nat_eq p q) _ _ refl
stopped_its q plan f (entry.Ask p k) d may has = absurd may.rule
stopped_its q plan f (entry.Did p k v bytes) d may has = act_stopped (nat_eq p q) k d
stopped_its q plan f (entry.Took p) d may has = absurd may.rule
stopped_its q plan f (entry.Forward p) d may has = absurd may.rule
stopped_its q plan f (entry.Leave p) d may has = same_both (nat_eq p q) _ _ refl
stopped_its q plan f (entry.Enter p m n a) d may has = same_both (nat_eq p q) _ _ refl
stopped_its q plan f (entry.Signal p r) d may has = absurd may.rule
stopped_its q plan f (entry.Advance t) d may has = absurd (no_advance plan f t may)
stopped_its q plan f (entry.Stop p m l n by) d may has = refl
stopped_its q plan f (entry.Trigger p m l s a applied) d may has = same_both (nat_eq p q) _ _ refl
stopped_its q plan f (entry.Served c x r) d may has = served_stopped q f c x r d (is_accepted r) refl may.rule.known has

-- a command that gives no order lets no process go on
unordered : (q : ℕ) (x : Call) (b : Bool) → ordered_process x ≡ 0 → is_served x ≡ true → (if nat_eq (resumed_process x) q then false else b) ≡ (if nat_eq 0 q then false else b)
unordered q (command.Continue p) b none known = ap (λ (n : ℕ). if nat_eq n q then false else b) none
unordered q (command.Step p) b none known = absurd (both_ways false refl known)
unordered q (command.Next p) b none known = absurd (both_ways false refl known)
unordered q (command.Finish p) b none known = absurd (both_ways false refl known)
unordered q _ b none known = refl

-- no process has the number 0
zero_stopped : (f : Facts) (q : ℕ) → (debuggee_at f q).is_stopped ≡ (if nat_eq 0 q then false else (debuggee_at f q).is_stopped)
zero_stopped f zero = refl
zero_stopped f (suc n) =
    let no : nat_eq 0 (suc n) ≡ false = ne_eqb 0 (suc n) (λ e. omega arith) in
    sym (ap (λ (b : Bool). if b then false else (debuggee_at f (suc n)).is_stopped) no)

served_none : (q : ℕ) (f : Facts) (c : ℕ) (x : Call) (r : Reply) (a : Bool) → is_accepted r ≡ a → is_served x ≡ true → process_in (entry.Served c x r) ≡ 0
    → (debuggee_at f q).is_stopped ≡ stopped_with q (debuggee_at f q).is_stopped (entry.Served c x r)
served_none q f c x r true is known none =
    let zero_is : ordered_process x ≡ 0 = (let same : process_in (entry.Served c x r) ≡ ordered_process x = rw is refl in sym same ∙ none) in
    rw is (zero_stopped f q ∙ sym (unordered q x (debuggee_at f q).is_stopped zero_is known))
served_none q f c x r false is known none = rw is refl

stopped_none : (q : ℕ) (plan : Plan) (f : Facts) (e : Entry) → May plan f e → HasNone e → (debuggee_at f q).is_stopped ≡ stopped_with q (debuggee_at f q).is_stopped e
stopped_none q plan f (entry.Start c p m n args) may none = refl
stopped_none q plan f (entry.Load c m v) may none = refl
stopped_none q plan f (entry.Advance t) may none = refl
stopped_none q plan f (entry.Served c x r) may none = served_none q f c x r (is_accepted r) refl may.rule.known none
stopped_none q plan f _ may none = absurd none

pub stopped_is : (plan : Plan) (journal : List Entry) (q : ℕ) → Legal plan journal → (debuggee_at (facts plan journal) q).is_stopped ≡ is_stopped_by q journal
stopped_is plan journal q legal =
    told q (λ (d : Debuggee). d.is_stopped) (stopped_with q) (stopped_its q) (stopped_none q) plan journal legal
    ∙ ap (λ (b : Bool). fold (stopped_with q) b journal) (first_false (λ (d : Debuggee). d.is_stopped) refl plan q)
