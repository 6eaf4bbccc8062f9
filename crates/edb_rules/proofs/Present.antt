-- The process of an entry that may stand was made; so what the entry makes of it is known of it then.

use Rattle.std.proofs.Common.{◌≡◌, ◌⊎◌, inl, inr, ℕ, zero, suc, ◌<◌, ◌≤◌, Bool, true, false, if◌then◌else◌, not, nat_eq, List, [], ◌∷◌, length, Option, None, Some, slice_index_or, refl, sym, ◌∙◌, ap, subst, arith}
use Rattle.std.proofs.lemmas.Bool.{both_ways, cases_order, eq-eqb, ne_eqb}
use Rattle.std.proofs.lemmas.Option.{none-some}
use Rattle.edb_model.specs.Running.{Run}
use Rattle.edb_model.specs.Plain.{Plain, running_at}
use Rattle.edb_model.specs.Procs.{numbered, with_numbered}
use Rattle.edb_event.specs.declared.call.Call.{Call}
use Rattle.edb_event.specs.declared.call.Call.TheVariants as command
use Rattle.edb_event.specs.declared.reply.Reply.{Reply}
use Rattle.edb_event.specs.declared.reply.Reply.TheVariants as reply
use Rattle.edb_event.specs.declared.reply.Refusal.{Refusal}
use Rattle.edb_event.specs.declared.reply.Refusal.TheVariants as refusal
use Rattle.edb_event.specs.declared.entry.Entry.{Entry}
use Rattle.edb_event.specs.declared.entry.Entry.TheVariants as entry
use Rattle.edb_rules.specs.Plans.{Plan}
use Rattle.edb_rules.specs.Facts.{Debuggee, OwedTrigger, Facts, at_first, unseen, debuggee_at}
use Rattle.edb_rules.specs.Slices.{SliceEnd, leaves, act_next, enters, stops, spent, end_at, after_moves}
use Rattle.edb_rules.specs.SliceEnds.{end_entries, coming_after}
use Rattle.edb_rules.specs.Replies.{is_served, is_accepted}
use Rattle.edb_rules.specs.Server.{Server, is_made}
use Rattle.edb_rules.specs.Refusals.{refused, first_case, not_interpreted}
use Rattle.edb_rules.specs.Answers.{reply_of}
use Rattle.edb_rules.specs.Orders.{ordered_process}
use Rattle.edb_rules.specs.Notes.{process_in, debuggee_with, with_changed, plain_with, behind_first, note, facts}
use Rattle.edb_rules.specs.Legal.{IsAnswer, MayLease, May, Legal}
use Rattle.edb_rules.proofs.Entries.{kept_from}
use Rattle.edb_rules.proofs.Kept.{no_load, note_length, agree_step}
use Rattle.edb_rules.proofs.Changes.{with_or, with_within, push_same, spawned_same}
use Rattle.edb_rules.proofs.Turning.{leases_in, acts_in}
use Rattle.edb_rules.proofs.SeenLists.{made_within, listed_step}

-- a process that has something to do was made
index_within : {A : Type 0} (xs : List (Option A)) (n : ℕ) (t : A) → slice_index_or xs n None ≡ Some t → n < length xs
index_within [] n t e = absurd (none-some t e)
index_within (x ∷ xs) zero t e = omega arith
index_within (x ∷ xs) (suc n) t e = let rest = index_within xs n t e in omega arith

pub lives_within : (s : Plain) (p : ℕ) (t : Run) → running_at s p ≡ Some t → (1 ≤ p) × (p ≤ length s.running)
lives_within s zero t e = absurd (none-some t e)
lives_within s (suc n) t e = let inside = index_within s.running n t e in (omega arith, omega arith)

-- so many are known
abbrev pub IsPresent : ℕ → ℕ → Type 0
IsPresent n p = (1 ≤ p) × (p ≤ n)

-- the entries to come are of processes that were made
abbrev ArePresent : ℕ → List Entry → Type 0
ArePresent n [] = Unit {0}
ArePresent n (e ∷ es) = IsPresent n (process_in e) × ArePresent n es

wider : (m n : ℕ) (es : List Entry) → m ≤ n → ArePresent m es → ArePresent n es
wider m n [] less all = tt
wider m n (e ∷ es) less all = (let first = all.0.0 in let last = all.0.1 in (omega arith, omega arith), wider m n es less all.1)

pub record Holds (f : Facts) : Type 0 where
  pub agree : length f.debuggees ≡ length f.plain.running
  pub listed : length f.server.seen ≡ length f.plain.running
  pub coming : ArePresent (length f.debuggees) f.coming

-- a process that has something to do is known
pub lives_known : (f : Facts) (p : ℕ) (t : Run) → length f.debuggees ≡ length f.plain.running → running_at f.plain p ≡ Some t → IsPresent (length f.debuggees) p
lives_known f p t agree lives = let inside = lives_within f.plain p t lives in let low = inside.0 in let high = inside.1 in (omega arith, omega arith)

-- a number past the last process, or 0, is unseen
index_past : (ds : List Debuggee) (n : ℕ) → (n < length ds → ⊥) → slice_index_or ds n unseen ≡ unseen
index_past [] n past = refl
index_past (d ∷ ds) zero past = absurd (past (omega arith))
index_past (d ∷ ds) (suc n) past = index_past ds n (λ less. past (omega arith))

present_or : (ds : List Debuggee) (p : ℕ) → IsPresent (length ds) p ⊎ (numbered unseen ds p ≡ unseen)
present_or ds zero = inr refl
present_or ds (suc n) = elim (cases_order n (length ds)) [
  | inl same ↦ inr (index_past ds n (λ less. omega arith))
  | inr (inl less) ↦ inl (omega arith, omega arith)
  | inr (inr more) ↦ inr (index_past ds n (λ less. omega arith))
]

-- the process that owes a trigger is known
owes_known : (f : Facts) (p : ℕ) (o : OwedTrigger) → (debuggee_at f p).owed ≡ Some o → IsPresent (length f.debuggees) p
owes_known f p o owed = elim (present_or f.debuggees p) [
  | inl here ↦ here
  | inr none ↦ absurd (none-some o (sym (ap (λ (d : Debuggee). d.owed) none) ∙ owed))
]

-- The process that a command gives an order is known, where the command is accepted.
made_known : (f : Facts) (p : ℕ) → Holds f → is_made f.server p ≡ true → IsPresent (length f.debuggees) p
made_known f p holds made =
    let inside = made_within f.server p made in
    let low = inside.0 in
    let high = inside.1 in
    let agree = holds.agree in
    let listed = holds.listed in
    (omega arith, omega arith)

pub first_none : (b : Bool) (r : Refusal) (rest : List (Bool × Refusal)) → first_case ((b, r) ∷ rest) ≡ None → b ≡ false
first_none true r rest e = absurd (none-some r (sym e))
first_none false r rest e = refl

pub rest_none : (b : Bool) (r : Refusal) (rest : List (Bool × Refusal)) → first_case ((b, r) ∷ rest) ≡ None → first_case rest ≡ None
rest_none true r rest e = absurd (none-some r (sym e))
rest_none false r rest e = e

pub not_false : (b : Bool) → not b ≡ false → b ≡ true
not_false true e = refl
not_false false e = absurd (both_ways true e refl)

-- an accepted reply is none of a refusal
unrefused : (s : Server) (c : ℕ) (x : Call) (r : Reply) (o : Option Refusal) → refused s c x ≡ o → r ≡ reply_of s c x → is_accepted r ≡ true → refused s c x ≡ None
unrefused s c x r None is same accepted = is
unrefused s c x r (Some why) is same accepted =
    let refuses : reply_of s c x ≡ reply.Refused why = rw is refl in
    absurd (both_ways false refl (ap is_accepted (sym (same ∙ refuses)) ∙ accepted))

pub accepted_unrefused : (plan : Plan) (f : Facts) (c : ℕ) (x : Call) (r : Reply) → IsAnswer plan f c x r → is_accepted r ≡ true → refused f.server c x ≡ None
accepted_unrefused plan f c x r (inl answered) accepted = unrefused f.server c x r (refused f.server c x) refl answered.same accepted
accepted_unrefused plan f c x r (inr quiet) accepted = absurd (both_ways false refl (ap is_accepted (sym quiet.same) ∙ accepted))

-- the entry is of no process
abbrev pub HasNone : Entry → Type 0
HasNone (entry.Start c p m n args) = Unit {0}
HasNone (entry.Load c m v) = Unit {0}
HasNone (entry.Advance t) = Unit {0}
HasNone (entry.Served c x r) = process_in (entry.Served c x r) ≡ 0
HasNone _ = ⊥

pub none_is : (e : Entry) → HasNone e → process_in e ≡ 0
none_is (entry.Start c p m n args) none = refl
none_is (entry.Load c m v) none = refl
none_is (entry.Advance t) none = refl
none_is (entry.Served c x r) none = none
none_is _ none = absurd none

-- the process of an entry that may stand was made, or the entry is of none
abbrev pub HasPresent : Facts → Entry → Type 0
HasPresent f e = IsPresent (length f.debuggees) (process_in e) ⊎ HasNone e

unserved : (x : Call) → is_served x ≡ true → is_served x ≡ false → ⊥
unserved x known other = both_ways (is_served x) other known

ordered_known : (plan : Plan) (f : Facts) (c : ℕ) (x : Call) → Holds f → is_served x ≡ true → refused f.server c x ≡ None
    → IsPresent (length f.debuggees) (ordered_process x) ⊎ (ordered_process x ≡ 0)
ordered_known plan f c (command.Continue p) agree known none = inl (made_known f p agree (not_false (is_made f.server p) (first_none (not (is_made f.server p)) refusal.NoProcess (not_interpreted f.server p ∷ []) none)))
ordered_known plan f c (command.Step p) agree known none = absurd (unserved (command.Step p) known refl)
ordered_known plan f c (command.Next p) agree known none = absurd (unserved (command.Next p) known refl)
ordered_known plan f c (command.Finish p) agree known none = absurd (unserved (command.Finish p) known refl)
ordered_known plan f c (command.Halt p) agree known none = absurd (unserved (command.Halt p) known refl)
ordered_known plan f c _ agree known none = inr refl

served_known : (plan : Plan) (f : Facts) (c : ℕ) (x : Call) (r : Reply) (b : Bool) → is_accepted r ≡ b → Holds f → is_served x ≡ true
    → IsAnswer plan f c x r → HasPresent f (entry.Served c x r)
served_known plan f c x r true is agree known answer =
    let same : process_in (entry.Served c x r) ≡ ordered_process x = rw is refl in
    elim (ordered_known plan f c x agree known (accepted_unrefused plan f c x r answer is)) [
      | inl here ↦ inl (subst (λ (p : ℕ). IsPresent (length f.debuggees) p) (sym same) here)
      | inr zero_is ↦ inr (same ∙ zero_is)
    ]
served_known plan f c x r false is agree known answer = inr (rw is refl)

pub lease_known : (plan : Plan) (f : Facts) (p b : ℕ) → length f.debuggees ≡ length f.plain.running → MayLease plan f p b → IsPresent (length f.debuggees) p
lease_known plan f p b agree may = elim may.turn [
  | inl turn ↦ (let ready = (leases_in f p turn).ready in lives_known f p ready.running agree ready.lives)
  | inr again ↦ lives_known f p again.running agree again.lives
]

next_known : (n : ℕ) (es : List Entry) (e : Entry) (rest : List Entry) → es ≡ e ∷ rest → ArePresent n es → IsPresent n (process_in e)
next_known n es e rest is all = let there : ArePresent n (e ∷ rest) = subst (ArePresent n) is all in there.0

rest_known : (n : ℕ) (es : List Entry) → ArePresent n es → ArePresent n (behind_first es)
rest_known n [] all = tt
rest_known n (e ∷ es) all = all.1

pub present : (plan : Plan) (f : Facts) (e : Entry) → Holds f → May plan f e → HasPresent f e
present plan f (entry.Start c p m n args) holds may = inr tt
present plan f (entry.Load c m v) holds may = inr tt
present plan f (entry.Skip c p) holds may = absurd may.rule
present plan f (entry.Kill c p) holds may = absurd may.rule
present plan f (entry.Expire c p) holds may = absurd may.rule
present plan f (entry.Signal p r) holds may = absurd may.rule
present plan f (entry.Advance t) holds may = inr tt
present plan f (entry.Ask p k) holds may = absurd may.rule
present plan f (entry.Took p) holds may = absurd may.rule
present plan f (entry.Forward p) holds may = absurd may.rule
present plan f (entry.Lease p b) holds may = inl (lease_known plan f p b holds.agree may.rule)
present plan f (entry.Ran p n c) holds may = inl (lives_known f p may.rule.running holds.agree may.rule.lives)
present plan f (entry.Did p k v bytes) holds may =
    let ready = (acts_in f p may.rule.act may.rule.turn).ready in inl (lives_known f p ready.running holds.agree ready.lives)
present plan f (entry.Leave p) holds may = inl (next_known _ f.coming (entry.Leave p) may.rule.0 may.rule.1 holds.coming)
present plan f (entry.Enter p m n a) holds may = inl (next_known _ f.coming (entry.Enter p m n a) may.rule.0 may.rule.1 holds.coming)
present plan f (entry.Stop p m l n by) holds may = inl (next_known _ f.coming (entry.Stop p m l n by) may.rule.0 may.rule.1 holds.coming)
present plan f (entry.Trigger p m l s a applied) holds may = inl (owes_known f p _ may.rule.owed)
present plan f (entry.Served c x r) holds may = served_known plan f c x r (is_accepted r) refl holds may.rule.known may.rule.answer

-- the entries of a slice's end are its process's
ends_present : (n p : ℕ) (t : Run) (end : SliceEnd) → IsPresent n p → ArePresent n (end_entries p t end)
ends_present n p t leaves here = (here, tt)
ends_present n p t act_next here = tt
ends_present n p t (enters None) here = (here, tt)
ends_present n p t (enters (Some why)) here = (here, (here, tt))
ends_present n p t (stops why) here = (here, tt)
ends_present n p t spent here = tt

-- what a slice ends with
pub coming_is : (plan : Plan) (f : Facts) (p n : ℕ) (t : Run) (end : SliceEnd) → running_at f.plain p ≡ Some t
    → end_at plan.code (debuggee_at f p).handout p t n ≡ Some end
    → coming_after plan f p n ≡ end_entries p (after_moves plan.code (debuggee_at f p).handout.versions n t) end
coming_is plan f p n t end lives ends = rw (lives, ends) refl

-- no fewer processes are known behind an entry
no_fewer : (plan : Plan) (f : Facts) (e : Entry) → May plan f e → length f.debuggees ≤ length (note plan f e).debuggees
no_fewer plan f e may = let made = note_length plan f e may in omega arith

coming_present : (plan : Plan) (f : Facts) (e : Entry) (n : ℕ) → Holds f → May plan f e → length f.debuggees ≤ n → ArePresent n (note plan f e).coming
coming_present plan f (entry.Ran p m c) n holds may less =
    let rule = may.rule in
    let here = lives_known f p rule.running holds.agree rule.lives in
    let low = here.0 in
    let high = here.1 in
    subst (ArePresent n) (sym (coming_is plan f p m rule.running rule.end rule.lives rule.slice.ends)) (ends_present n p (after_moves plan.code (debuggee_at f p).handout.versions m rule.running) rule.end (omega arith, omega arith))
coming_present plan f (entry.Leave p) n holds may less = wider _ n _ less (rest_known _ f.coming holds.coming)
coming_present plan f (entry.Enter p m k a) n holds may less = wider _ n _ less (rest_known _ f.coming holds.coming)
coming_present plan f (entry.Stop p m l k by) n holds may less = wider _ n _ less (rest_known _ f.coming holds.coming)
coming_present plan f _ n holds may less = wider _ n _ less holds.coming

pub holds_step : (plan : Plan) (f : Facts) (e : Entry) → Holds f → May plan f e → Holds (note plan f e)
holds_step plan f e holds may = record {
  agree = agree_step plan f e holds.agree may;
  listed = listed_step plan f e holds.listed may;
  coming = coming_present plan f e _ holds may (no_fewer plan f e may);
}

pub first_holds : (plan : Plan) → Holds (at_first plan)
first_holds plan = record { agree = refl; listed = refl; coming = tt }

pub holds_at : (plan : Plan) (journal : List Entry) → Legal plan journal → Holds (facts plan journal)
holds_at plan journal legal = kept_from plan Holds (holds_step plan) (at_first plan) journal (first_holds plan) legal

-- WHAT IS KNOWN OF A PROCESS BEHIND AN ENTRY: what the entry makes of it, if it is the entry's, and else what was known.
pub here_or : (p q : ℕ) → (p ≡ q) ⊎ (p ≡ q → ⊥)
here_or zero zero = inl refl
here_or zero (suc q) = inr (λ e. omega arith)
here_or (suc p) zero = inr (λ e. omega arith)
here_or (suc p) (suc q) = elim (here_or p q) [
  | inl e ↦ inl (ap suc e)
  | inr not ↦ inr (λ e. not (omega arith))
]

-- what stands at a number behind a change
pub with_exact : {A : Type 0} (d : A) (xs : List A) (p : ℕ) (x : A) (q : ℕ) → IsPresent (length xs) p
    → numbered d (with_numbered xs p x) q ≡ (if nat_eq p q then x else numbered d xs q)
with_exact d xs p x q here = elim (here_or p q) [
  | inl e ↦ (let yes : nat_eq p q ≡ true = eq-eqb p q e in rw yes (subst (λ (n : ℕ). numbered d (with_numbered xs p x) n ≡ x) e (with_within d xs p x here.0 here.1)))
  | inr not ↦ (let no : nat_eq p q ≡ false = ne_eqb p q not in rw no (elim (with_or d xs p x q) [
    | inl both ↦ absurd (not both.0)
    | inr same ↦ same
  ]))
]

-- what the entry of a process that was made makes of it; what is known of the others stays
abbrev pub IsExact : Plan → Facts → Entry → ℕ → Type 0
IsExact plan f e q = debuggee_at (note plan f e) q ≡ (if nat_eq (process_in e) q then debuggee_with f e (debuggee_at f q) else debuggee_at f q)

at_its : (f : Facts) (e : Entry) (q : ℕ) (d : Debuggee) → d ≡ numbered unseen (with_changed f e) q → IsPresent (length f.debuggees) (process_in e)
    → d ≡ (if nat_eq (process_in e) q then debuggee_with f e (debuggee_at f q) else debuggee_at f q)
at_its f e q d is here = by (here_or (process_in e) q)
  where
    its : Debuggee
    its = debuggee_with f e (debuggee_at f (process_in e))

    exact : d ≡ (if nat_eq (process_in e) q then its else debuggee_at f q)
    exact = is ∙ with_exact unseen f.debuggees (process_in e) its q here

    by : (process_in e ≡ q) ⊎ (process_in e ≡ q → ⊥) → d ≡ (if nat_eq (process_in e) q then debuggee_with f e (debuggee_at f q) else debuggee_at f q)
    by (inl same) = exact ∙ ap (λ (x : Debuggee). if nat_eq (process_in e) q then x else debuggee_at f q) (ap (λ (n : ℕ). debuggee_with f e (debuggee_at f n)) same)
    by (inr other) =
        let no : nat_eq (process_in e) q ≡ false = ne_eqb (process_in e) q other in
        exact ∙ (ap (λ (b : Bool). if b then its else debuggee_at f q) no ∙ sym (ap (λ (b : Bool). if b then debuggee_with f e (debuggee_at f q) else debuggee_at f q) no))

-- AN ENTRY WITH A PROCESS makes of it what it makes, and leaves the others; every other entry that may stand leaves all.
pub exact : (plan : Plan) (f : Facts) (e : Entry) (q : ℕ) → May plan f e → IsPresent (length f.debuggees) (process_in e) → IsExact plan f e q
exact plan f (entry.Start c p m n args) q may here = absurd (let low = here.0 in omega arith)
exact plan f (entry.Load c m v) q may here = absurd (let low = here.0 in omega arith)
exact plan f (entry.Did p k v bytes) q may here =
    at_its f (entry.Did p k v bytes) q _ (spawned_same k (length (plain_with plan f.plain (entry.Did p k v bytes)).running) (with_changed f (entry.Did p k v bytes)) q) here
exact plan f (entry.Lease p b) q may here = at_its f (entry.Lease p b) q _ refl here
exact plan f (entry.Ran p n c) q may here = at_its f (entry.Ran p n c) q _ refl here
exact plan f (entry.Ask p k) q may here = at_its f (entry.Ask p k) q _ refl here
exact plan f (entry.Took p) q may here = at_its f (entry.Took p) q _ refl here
exact plan f (entry.Forward p) q may here = at_its f (entry.Forward p) q _ refl here
exact plan f (entry.Leave p) q may here = at_its f (entry.Leave p) q _ refl here
exact plan f (entry.Enter p m n a) q may here = at_its f (entry.Enter p m n a) q _ refl here
exact plan f (entry.Signal p r) q may here = at_its f (entry.Signal p r) q _ refl here
exact plan f (entry.Advance t) q may here = at_its f (entry.Advance t) q _ refl here
exact plan f (entry.Stop p m l n by) q may here = at_its f (entry.Stop p m l n by) q _ refl here
exact plan f (entry.Trigger p m l s a applied) q may here = at_its f (entry.Trigger p m l s a applied) q _ refl here
exact plan f (entry.Served c x r) q may here = at_its f (entry.Served c x r) q _ refl here
exact plan f (entry.Skip c p) q may here = at_its f (entry.Skip c p) q _ refl here
exact plan f (entry.Kill c p) q may here = at_its f (entry.Kill c p) q _ refl here
exact plan f (entry.Expire c p) q may here = at_its f (entry.Expire c p) q _ refl here

-- an entry that may stand and has no process leaves what is known of each
at_none : (f : Facts) (e : Entry) (q : ℕ) → process_in e ≡ 0 → numbered unseen (with_changed f e) q ≡ debuggee_at f q
at_none f e q none = ap (λ (n : ℕ). numbered unseen (with_numbered f.debuggees n (debuggee_with f e (debuggee_at f n))) q) none

pub none_changed : (plan : Plan) (f : Facts) (e : Entry) (q : ℕ) → May plan f e → process_in e ≡ 0 → debuggee_at (note plan f e) q ≡ debuggee_at f q
none_changed plan f (entry.Start c p m n args) q may none = push_same f.debuggees q
none_changed plan f (entry.Load c m v) q may none = absurd (no_load plan f c m v may)
none_changed plan f (entry.Did p k v bytes) q may none =
    spawned_same k (length (plain_with plan f.plain (entry.Did p k v bytes)).running) (with_changed f (entry.Did p k v bytes)) q ∙ at_none f (entry.Did p k v bytes) q none
none_changed plan f (entry.Lease p b) q may none = at_none f (entry.Lease p b) q none
none_changed plan f (entry.Ran p n c) q may none = at_none f (entry.Ran p n c) q none
none_changed plan f (entry.Ask p k) q may none = at_none f (entry.Ask p k) q none
none_changed plan f (entry.Took p) q may none = at_none f (entry.Took p) q none
none_changed plan f (entry.Forward p) q may none = at_none f (entry.Forward p) q none
none_changed plan f (entry.Leave p) q may none = at_none f (entry.Leave p) q none
none_changed plan f (entry.Enter p m n a) q may none = at_none f (entry.Enter p m n a) q none
none_changed plan f (entry.Signal p r) q may none = at_none f (entry.Signal p r) q none
none_changed plan f (entry.Advance t) q may none = at_none f (entry.Advance t) q none
none_changed plan f (entry.Stop p m l n by) q may none = at_none f (entry.Stop p m l n by) q none
none_changed plan f (entry.Trigger p m l s a applied) q may none = at_none f (entry.Trigger p m l s a applied) q none
none_changed plan f (entry.Served c x r) q may none = at_none f (entry.Served c x r) q none
none_changed plan f (entry.Skip c p) q may none = at_none f (entry.Skip c p) q none
none_changed plan f (entry.Kill c p) q may none = at_none f (entry.Kill c p) q none
none_changed plan f (entry.Expire c p) q may none = at_none f (entry.Expire c p) q none
