-- Each entry of a legal journal keeps the interpreter server and the facts in agreement.

use Rattle.std.proofs.Common.{◌≡◌, ◌⊎◌, inl, inr, ℕ, zero, suc, ◌+◌, Bool, true, false, if◌then◌else◌, List, [], ◌∷◌, ◌++◌, length, Option, None, Some, refl, sym, ◌∙◌, ap, subst, arith}
use Rattle.std.specs.Option.{option_map}
use Rattle.std.proofs.lemmas.Bool.{both_ways, eq-eqb, ne_eqb}
use Rattle.std.proofs.lemmas.Option.{none-some, same_Some}
use Rattle.edb_lang.specs.Terms.{Datum, elements}
use Rattle.edb_lang.specs.TermText.{term_text}
use Rattle.edb_lang.specs.declared.act.ActKind.{ActKind}
use Rattle.edb_lang.specs.declared.act.ActKind.TheVariants as kind
use Rattle.edb_frames.specs.declared.mode.Mode.TheVariants.{Run as RunOn}
use Rattle.edb_model.specs.Running.{Run, opening_call}
use Rattle.edb_model.specs.Move.{acts, answered}
use Rattle.edb_model.specs.Acts.{true_term, exit_reason, acted}
use Rattle.edb_model.specs.Procs.{Member, numbered, with_numbered, new_member, ended_member}
use Rattle.edb_model.specs.Plain.{Plain, running_at, ended}
use Rattle.edb_event.specs.declared.call.Call.{Call}
use Rattle.edb_event.specs.declared.call.Call.TheVariants as command
use Rattle.edb_event.specs.declared.reply.Reply.{Reply}
use Rattle.edb_event.specs.declared.entry.Cause.{Cause}
use Rattle.edb_event.specs.declared.entry.Entry.{Entry}
use Rattle.edb_event.specs.declared.entry.Entry.TheVariants as entry
use Rattle.edb_rules.specs.Plans.{Plan}
use Rattle.edb_rules.specs.Facts.{Debuggee, Facts, at_first, unseen, debuggee_at}
use Rattle.edb_rules.specs.Seen.{Seen, new_seen}
use Rattle.edb_rules.specs.Server.{Server, seen_at}
use Rattle.edb_rules.specs.Turns.{Act, act_of, leases, turn_of}
use Rattle.edb_rules.specs.Replies.{is_served, is_accepted}
use Rattle.edb_rules.specs.Called.{called, resumed_seen}
use Rattle.edb_rules.specs.Noted.{while_lives, ended_seen}
use Rattle.edb_rules.specs.Orders.{ordered_process}
use Rattle.edb_rules.specs.News.{frames_in}
use Rattle.edb_rules.specs.Notes.{process_in, debuggee_with, note, facts}
use Rattle.edb_rules.specs.Legal.{IsLeasedAgain, MayLease, May, Legal}
use Rattle.edb_rules.specs.Agrees.{AgreesOn, reason_of}
use Rattle.edb_rules.proofs.Entries.{kept_from}
use Rattle.edb_rules.proofs.Changes.{with_or, with_within}
use Rattle.edb_rules.proofs.Kept.{no_load, no_advance, act_comes, note_is, note_stays, with_length}
use Rattle.edb_rules.proofs.Steps.{none_started}
use Rattle.edb_rules.proofs.Made.{kept_if}
use Rattle.edb_rules.proofs.SeenLists.{process_last}
use Rattle.edb_rules.proofs.Present.{IsPresent, HasNone, here_or, present, exact, none_changed, lease_known, lives_known}
use Rattle.edb_rules.proofs.Turning.{leases_in, acts_in}
use Rattle.edb_rules.proofs.Endings.{AreThere, there_step, first_there, with_here, ran_lives}
use Rattle.edb_rules.proofs.Fresh.{Keeps, keeps_step, first_keeps, stop_free}
use Rattle.edb_rules.proofs.PlainSteps.{MovesOne, other_running, moves_ones, did_act, start_makes, pushed}
use Rattle.edb_rules.proofs.Agreeing.{Matches, matches_free, matches_same, matches_enter, matches_leave, matches_stop, matches_end, matches_resume}

abbrev pub On : Facts → ℕ → Type 0
On f q = Matches (seen_at f.server q) (debuggee_at f q) (running_at f.plain q) (reason_of f q)

pub record InStep (plan : Plan) (f : Facts) : Type 0 where
  pub keeps : Keeps f
  pub there : AreThere plan f f.coming
  pub members : length f.plain.procs.members ≡ length f.plain.running
  pub each : (q : ℕ) → On f q

by_parts : (f : Facts) (q : ℕ) (o : Option Seen) (d : Debuggee) (t : Option Run) (x : Option Datum) → seen_at f.server q ≡ o → debuggee_at f q ≡ d → running_at f.plain q ≡ t → reason_of f q ≡ x
    → Matches o d t x → On f q
by_parts f q o d t x oo dd tt_ xx m =
    subst (λ (y : Option Seen). Matches y (debuggee_at f q) (running_at f.plain q) (reason_of f q)) (sym oo)
    (subst (λ (y : Debuggee). Matches o y (running_at f.plain q) (reason_of f q)) (sym dd)
    (subst (λ (y : Option Run). Matches o d y (reason_of f q)) (sym tt_)
    (subst (λ (y : Option Datum). Matches o d t y) (sym xx) m)))

-- what is known of the process of an entry, and of another
known_here : (plan : Plan) (f : Facts) (e : Entry) (p : ℕ) → May plan f e → IsPresent (length f.debuggees) (process_in e) → process_in e ≡ p
    → debuggee_at (note plan f e) p ≡ debuggee_with f e (debuggee_at f p)
known_here plan f e p may here same = exact plan f e p may here ∙ ap (λ (b : Bool). if b then debuggee_with f e (debuggee_at f p) else debuggee_at f p) (eq-eqb (process_in e) p same)

known_other : (plan : Plan) (f : Facts) (e : Entry) (q : ℕ) → May plan f e → IsPresent (length f.debuggees) (process_in e) → (process_in e ≡ q → ⊥)
    → debuggee_at (note plan f e) q ≡ debuggee_at f q
known_other plan f e q may here other = exact plan f e q may here ∙ ap (λ (b : Bool). if b then debuggee_with f e (debuggee_at f q) else debuggee_at f q) (ne_eqb (process_in e) q other)

-- an entry of process p keeps the others in step where it leaves what was seen of them, what they have to do and their reasons
others : (plan : Plan) (f : Facts) (e : Entry) → InStep plan f → May plan f e → IsPresent (length f.debuggees) (process_in e)
    → ((q : ℕ) → (process_in e ≡ q → ⊥) → seen_at (note plan f e).server q ≡ seen_at f.server q)
    → ((q : ℕ) → (process_in e ≡ q → ⊥) → running_at (note plan f e).plain q ≡ running_at f.plain q)
    → ((q : ℕ) → (process_in e ≡ q → ⊥) → reason_of (note plan f e) q ≡ reason_of f q)
    → On (note plan f e) (process_in e) → (q : ℕ) → On (note plan f e) q
others plan f e k may here seen runs reasons its q = elim (here_or (process_in e) q) [
  | inl same ↦ subst (On (note plan f e)) same its
  | inr other ↦
      by_parts (note plan f e) q (seen_at f.server q) (debuggee_at f q) (running_at f.plain q) (reason_of f q) (seen q other)
      (known_other plan f e q may here other) (runs q other) (reasons q other) (k.each q)
]

-- what was seen of another process stays
seen_other : (seen : List (Option Seen)) (p : ℕ) (x : Option Seen) (q : ℕ) → (p ≡ q → ⊥) → numbered None (with_numbered seen p x) q ≡ numbered None seen q
seen_other seen p x q other = elim (with_or None seen p x q) [
  | inl both ↦ absurd (other both.0)
  | inr same ↦ same
]

seen_here : (f : Facts) (p : ℕ) (x : Option Seen) → Keeps f → IsPresent (length f.debuggees) p → numbered None (with_numbered f.server.seen p x) p ≡ x
seen_here f p x keeps here =
    let agree = keeps.holds.agree in
    let listed = keeps.holds.listed in
    let low = here.0 in
    let high = here.1 in
    with_within None f.server.seen p x (omega arith) (omega arith)

lives_on : (f : Facts) (p : ℕ) (t : Run) → running_at f.plain p ≡ Some t → On f p → Matches (seen_at f.server p) (debuggee_at f p) (Some t) (reason_of f p)
lives_on f p t lives m = subst (λ (y : Option Run). Matches (seen_at f.server p) (debuggee_at f p) y (reason_of f p)) lives m

-- Lease
record Leaseable (f : Facts) (p : ℕ) : Type 0 where
  pub running : Run
  pub lives : running_at f.plain p ≡ Some running
  pub free : (debuggee_at f p).is_stopped ≡ false

pub is_free : (d : Debuggee) → (d.is_stopped ≡ true → d.is_out ≡ false) → d.is_out ≡ true → (b : Bool) → d.is_stopped ≡ b → d.is_stopped ≡ false
is_free d still out true is = absurd (both_ways d.is_out (still is) out)
is_free d still out false is = is

leaseable : (plan : Plan) (f : Facts) (p b : ℕ) → InStep plan f → MayLease plan f p b → Leaseable f p
leaseable plan f p b k may = by may.turn
  where
    by : (turn_of f p ≡ Some leases) ⊎ IsLeasedAgain f p → Leaseable f p
    by (inl turn) = (let ready = (leases_in f p turn).ready in record { running = ready.running; lives = ready.lives; free = ready.goes })
    by (inr again) = record {
      running = again.running;
      lives = again.lives;
      free = is_free (debuggee_at f p) (k.each p).still again.out (debuggee_at f p).is_stopped refl;
    }

lease_on : (plan : Plan) (f : Facts) (p b : ℕ) → InStep plan f → May plan f (entry.Lease p b) → (q : ℕ) → On (note plan f (entry.Lease p b)) q
lease_on plan f p b k may =
    let l = leaseable plan f p b k may.rule in
    let here = lease_known plan f p b k.keeps.holds.agree may.rule in
    let d = debuggee_at f p in
    others plan f (entry.Lease p b) k may here (λ q other. refl) (λ q other. refl) (λ q other. refl)
    (by_parts (note plan f (entry.Lease p b)) p (seen_at f.server p) (debuggee_with f (entry.Lease p b) d) (Some l.running) (reason_of f p) refl
    (known_here plan f (entry.Lease p b) p may here refl) l.lives refl
    (matches_free (seen_at f.server p) d (debuggee_with f (entry.Lease p b) d) l.running l.running (reason_of f p) refl refl l.free (lives_on f p l.running l.lives (k.each p))))

-- Ran
ran_on : (plan : Plan) (f : Facts) (p n c : ℕ) → InStep plan f → May plan f (entry.Ran p n c) → (q : ℕ) → On (note plan f (entry.Ran p n c)) q
ran_on plan f p n c k may =
    let e = entry.Ran p n c in
    let is = note_is plan f e may in
    let ones = subst (λ (s : Plain). MovesOne f.plain s p) (sym is) (moves_ones plan.code f.plain may.plain p n may.enabled) in
    let here = lives_known f p may.rule.running k.keeps.holds.agree may.rule.lives in
    let d = debuggee_at f p in
    let free = is_free d (k.each p).still may.rule.out d.is_stopped refl in
    others plan f e k may here (λ q other. refl) ones.others (λ q other. ap (λ (ms : List Member). (numbered new_member ms q).exit) (ap (λ procs. procs.members) ones.procs))
    (by_parts (note plan f e) p (seen_at f.server p) (debuggee_with f e d) _ (reason_of f p) refl
    (known_here plan f e p may here refl) (ran_lives plan f p n c may) (ap (λ (ms : List Member). (numbered new_member ms p).exit) (ap (λ procs. procs.members) ones.procs))
    (matches_free (seen_at f.server p) d (debuggee_with f e d) may.rule.running _ (reason_of f p) refl refl free (lives_on f p may.rule.running may.rule.lives (k.each p))))

-- Did
print_on : (plan : Plan) (f : Facts) (p : ℕ) (v bytes : List ℕ) → InStep plan f → May plan f (entry.Did p kind.Print v bytes) → (q : ℕ) → On (note plan f (entry.Did p kind.Print v bytes)) q
print_on plan f p v bytes k may =
    let e = entry.Did p kind.Print v bytes in
    let ready = (acts_in f p may.rule.act may.rule.turn).ready in
    let is = same_Some _ may.plain (did_act plan f p kind.Print v bytes may) ∙ sym (note_is plan f e may) in
    let here = lives_known f p ready.running k.keeps.holds.agree ready.lives in
    let d = debuggee_at f p in
    others plan f e k may here (λ q other. refl)
    (λ q other. ap (λ (s : Plain). running_at s q) (sym is) ∙ other_running f.plain p q _ other)
    (λ q other. ap (λ (s : Plain). (numbered new_member s.procs.members q).exit) (sym is))
    (by_parts (note plan f e) p (seen_at f.server p) (debuggee_with f e d) (Some (answered true_term ready.running)) (reason_of f p) refl
    (known_here plan f e p may here refl) (ap (λ (s : Plain). running_at s p) (sym is) ∙ with_here f.plain p _ ready.running ready.lives)
    (ap (λ (s : Plain). (numbered new_member s.procs.members p).exit) (sym is))
    (matches_free (seen_at f.server p) d (debuggee_with f e d) ready.running _ (reason_of f p) refl refl ready.goes (lives_on f p ready.running ready.lives (k.each p))))

reason_text : (k : ActKind) (t : Run) (a : Act) → k ≡ kind.End → act_of k t ≡ Some a → a.answer ≡ exit_reason t
reason_text k t a is e =
    let here : act_of kind.End t ≡ Some a = subst (λ (x : ActKind). act_of x t ≡ Some a) is e in ap (λ (x : Act). x.answer) (sym (same_Some _ a here))

end_on : (plan : Plan) (f : Facts) (p : ℕ) (v bytes : List ℕ) → InStep plan f → May plan f (entry.Did p kind.End v bytes) → (q : ℕ) → On (note plan f (entry.Did p kind.End v bytes)) q
end_on plan f p v bytes k may =
    let e = entry.Did p kind.End v bytes in
    let told = acts_in f p may.rule.act may.rule.turn in
    let ready = told.ready in
    let is = same_Some (ended f.plain p (exit_reason ready.running)) may.plain (did_act plan f p kind.End v bytes may) ∙ sym (note_is plan f e may) in
    let here = lives_known f p ready.running k.keeps.holds.agree ready.lives in
    let d = debuggee_at f p in
    let text = may.rule.answer ∙ ap term_text (reason_text may.rule.act.kind ready.running may.rule.act (sym may.rule.kind) told.act) in
    let m = ended_member (exit_reason ready.running) (numbered new_member f.plain.procs.members p) in
    others plan f e k may here (λ q other. seen_other f.server.seen p _ q other)
    (λ q other. ap (λ (s : Plain). running_at s q) (sym is) ∙ other_running f.plain p q None other)
    (λ q other. ap (λ (s : Plain). (numbered new_member s.procs.members q).exit) (sym is) ∙ ap (λ (x : Member). x.exit) (member_other f.plain.procs.members p m q other))
    (by_parts (note plan f e) p (option_map (while_lives (ended_seen v)) (seen_at f.server p)) (debuggee_with f e d) None (Some (exit_reason ready.running))
    (seen_here f p _ k.keeps here)
    (known_here plan f e p may here refl) (ap (λ (s : Plain). running_at s p) (sym is) ∙ with_here f.plain p None ready.running ready.lives)
    (ap (λ (s : Plain). (numbered new_member s.procs.members p).exit) (sym is) ∙ ap (λ (x : Member). x.exit) (member_here f p m k here))
    (matches_end (seen_at f.server p) v d (debuggee_with f e d) ready.running (reason_of f p) (exit_reason ready.running) refl refl text (lives_on f p ready.running ready.lives (k.each p))))
  where
    member_other : (ms : List Member) (p : ℕ) (x : Member) (q : ℕ) → (p ≡ q → ⊥) → numbered new_member (with_numbered ms p x) q ≡ numbered new_member ms q
    member_other ms p x q other = elim (with_or new_member ms p x q) [
      | inl both ↦ absurd (other both.0)
      | inr same ↦ same
    ]

    member_here : (f : Facts) (p : ℕ) (x : Member) → InStep plan f → IsPresent (length f.debuggees) p → numbered new_member (with_numbered f.plain.procs.members p x) p ≡ x
    member_here f p x k here =
        let agree = k.keeps.holds.agree in
        let members = k.members in
        let low = here.0 in
        let high = here.1 in
        with_within new_member f.plain.procs.members p x (omega arith) (omega arith)

did_on : (plan : Plan) (f : Facts) (p : ℕ) (k : ActKind) (v bytes : List ℕ) → InStep plan f → May plan f (entry.Did p k v bytes) → (k ≡ kind.Print) ⊎ (k ≡ kind.End)
    → (q : ℕ) → On (note plan f (entry.Did p k v bytes)) q
did_on plan f p k v bytes s may (inl is) q =
    subst (λ (x : ActKind). May plan f (entry.Did p x v bytes) → On (note plan f (entry.Did p x v bytes)) q) (sym is) (λ m. print_on plan f p v bytes s m q) may
did_on plan f p k v bytes s may (inr is) q =
    subst (λ (x : ActKind). May plan f (entry.Did p x v bytes) → On (note plan f (entry.Did p x v bytes)) q) (sym is) (λ m. end_on plan f p v bytes s m q) may

-- an entry that may stand and has a process that was made
pub here_of : (plan : Plan) (f : Facts) (e : Entry) → InStep plan f → May plan f e → (HasNone e → ⊥) → IsPresent (length f.debuggees) (process_in e)
here_of plan f e k may not = elim (present plan f e k.keeps.holds may) [
  | inl here ↦ here
  | inr none ↦ absurd (not none)
]

leave_on : (plan : Plan) (f : Facts) (p : ℕ) → InStep plan f → May plan f (entry.Leave p) → (q : ℕ) → On (note plan f (entry.Leave p)) q
leave_on plan f p k may =
    let e = entry.Leave p in
    let here = here_of plan f e k may (λ no. no) in
    let d = debuggee_at f p in
    others plan f e k may here (λ q other. seen_other f.server.seen p _ q other) (λ q other. refl) (λ q other. refl)
    (by_parts (note plan f e) p _ (debuggee_with f e d) (running_at f.plain p) (reason_of f p) (seen_here f p _ k.keeps here) (known_here plan f e p may here refl) refl refl
    (matches_leave (seen_at f.server p) d (debuggee_with f e d) (running_at f.plain p) (reason_of f p) refl refl refl (k.each p)))

enter_on : (plan : Plan) (f : Facts) (p : ℕ) (m n : List ℕ) (a : ℕ) → InStep plan f → May plan f (entry.Enter p m n a) → (q : ℕ) → On (note plan f (entry.Enter p m n a)) q
enter_on plan f p m n a k may =
    let e = entry.Enter p m n a in
    let here = here_of plan f e k may (λ no. no) in
    let d = debuggee_at f p in
    let tells = first_there plan f e may.rule.0 may.rule.1 k.there in
    others plan f e k may here (λ q other. seen_other f.server.seen p _ q other) (λ q other. refl) (λ q other. refl)
    (by_parts (note plan f e) p _ (debuggee_with f e d) (Some tells.running) (reason_of f p) (seen_here f p _ k.keeps here) (known_here plan f e p may here refl) tells.lives refl
    (matches_enter (seen_at f.server p) (record { home = m; name = n; arity = a }) d (debuggee_with f e d) tells.running (reason_of f p) refl refl refl (lives_on f p tells.running tells.lives (k.each p))))

stop_on : (plan : Plan) (f : Facts) (p : ℕ) (m : List ℕ) (l n : ℕ) (by : Cause) → InStep plan f → May plan f (entry.Stop p m l n by) → (q : ℕ) → On (note plan f (entry.Stop p m l n by)) q
stop_on plan f p m l n by k may =
    let e = entry.Stop p m l n by in
    let here = here_of plan f e k may (λ no. no) in
    let d = debuggee_at f p in
    let tells = first_there plan f e may.rule.0 may.rule.1 k.there in
    others plan f e k may here (λ q other. seen_other f.server.seen p _ q other) (λ q other. refl) (λ q other. refl)
    (by_parts (note plan f e) p _ (debuggee_with f e d) (Some tells.running) (reason_of f p) (seen_here f p _ k.keeps here) (known_here plan f e p may here refl) tells.lives refl
    (matches_stop (seen_at f.server p) (record { home = m; line = l; level = n; frames = frames_in l (running_at f.plain p) }) d (debuggee_with f e d) tells.running (reason_of f p) refl refl
    (stop_free plan f e k.keeps may tt)
    (record { running = tells.running; lives = refl; at = tells.at; level = tells.level_is; frames = ap (frames_in l) tells.lives })
    (lives_on f p tells.running tells.lives (k.each p))))

trigger_on : (plan : Plan) (f : Facts) (e : Entry) → InStep plan f → May plan f e → IsPresent (length f.debuggees) (process_in e)
    → (debuggee_with f e (debuggee_at f (process_in e))).is_interpreted ≡ (debuggee_at f (process_in e)).is_interpreted
    → (debuggee_with f e (debuggee_at f (process_in e))).is_stopped ≡ (debuggee_at f (process_in e)).is_stopped
    → (debuggee_with f e (debuggee_at f (process_in e))).is_out ≡ (debuggee_at f (process_in e)).is_out
    → (note plan f e).server.seen ≡ f.server.seen → (note plan f e).plain ≡ f.plain → (q : ℕ) → On (note plan f e) q
trigger_on plan f e k may here inside stopped out seen plain =
    let p = process_in e in
    let d = debuggee_at f p in
    let same = λ (q : ℕ). ap (λ (xs : List (Option Seen)). numbered None xs q) seen in
    others plan f e k may here (λ q other. same q) (λ q other. ap (λ (s : Plain). running_at s q) plain) (λ q other. ap (λ (s : Plain). (numbered new_member s.procs.members q).exit) plain)
    (by_parts (note plan f e) p (seen_at f.server p) (debuggee_with f e d) (running_at f.plain p) (reason_of f p) (same p) (known_here plan f e p may here refl)
    (ap (λ (s : Plain). running_at s p) plain) (ap (λ (s : Plain). (numbered new_member s.procs.members p).exit) plain)
    (matches_same (seen_at f.server p) d (debuggee_with f e d) (running_at f.plain p) (reason_of f p) inside stopped out (k.each p)))

-- Served
none_on : (plan : Plan) (f : Facts) (e : Entry) → InStep plan f → May plan f e → process_in e ≡ 0 → (note plan f e).server.seen ≡ f.server.seen → (note plan f e).plain ≡ f.plain
    → (q : ℕ) → On (note plan f e) q
none_on plan f e k may none seen plain q =
    by_parts (note plan f e) q (seen_at f.server q) (debuggee_at f q) (running_at f.plain q) (reason_of f q) (ap (λ (xs : List (Option Seen)). numbered None xs q) seen)
    (none_changed plan f e q may none) (ap (λ (s : Plain). running_at s q) plain) (ap (λ (s : Plain). (numbered new_member s.procs.members q).exit) plain) (k.each q)

unserved : {A : Type 0} (x : Call) → is_served x ≡ true → is_served x ≡ false → A
unserved x known other = absurd (both_ways (is_served x) other known)

abbrev pub is_continue : Call → Bool
is_continue (command.Continue p) = true
is_continue _ = false

pub seen_kept : (s : Server) (c : ℕ) (x : Call) → is_served x ≡ true → is_continue x ≡ false → (called s c x).seen ≡ s.seen
seen_kept s c (command.Continue p) known other = absurd (both_ways true other refl)
seen_kept s c command.Ic known other = unserved command.Ic known refl
seen_kept s c (command.Step p) known other = unserved (command.Step p) known refl
seen_kept s c (command.Next p) known other = unserved (command.Next p) known refl
seen_kept s c (command.Finish p) known other = unserved (command.Finish p) known refl
seen_kept s c (command.Skip p) known other = unserved (command.Skip p) known refl
seen_kept s c _ known other = refl

unordered : (x : Call) → is_served x ≡ true → is_continue x ≡ false → ordered_process x ≡ 0
unordered (command.Continue p) known other = absurd (both_ways true other refl)
unordered (command.Step p) known other = unserved (command.Step p) known refl
unordered (command.Next p) known other = unserved (command.Next p) known refl
unordered (command.Finish p) known other = unserved (command.Finish p) known refl
unordered (command.Halt p) known other = unserved (command.Halt p) known refl
unordered _ known other = refl

continue_on : (plan : Plan) (f : Facts) (c p : ℕ) (r : Reply) → InStep plan f → May plan f (entry.Served c (command.Continue p) r) → is_accepted r ≡ true
    → (q : ℕ) → On (note plan f (entry.Served c (command.Continue p) r)) q
continue_on plan f c p r k may is =
    let e = entry.Served c (command.Continue p) r in
    let server : (note plan f e).server ≡ called f.server c (command.Continue p) = ap (λ (b : Bool). if b then called f.server c (command.Continue p) else f.server) is in
    let its : process_in e ≡ p = ap (λ (b : Bool). if b then p else 0) is in
    let seen = λ (q : ℕ). ap (λ (s : Server). seen_at s q) server in
    elim (present plan f e k.keeps.holds may) [
      | inl here ↦
          (let at = subst (IsPresent (length f.debuggees)) its here in
          let d = debuggee_at f p in
          others plan f e k may here (λ q other. seen q ∙ seen_other f.server.seen p _ q (λ same. other (its ∙ same))) (λ q other. refl) (λ q other. refl)
          (subst (On (note plan f e)) (sym its)
          (by_parts (note plan f e) p (option_map resumed_seen (seen_at f.server p)) (debuggee_with f e d) (running_at f.plain p) (reason_of f p)
          (seen p ∙ seen_here f p _ k.keeps at) (known_here plan f e p may here its) refl refl
          (matches_resume (seen_at f.server p) RunOn d (running_at f.plain p) (reason_of f p) (k.each p)))))
      | inr none ↦
          (let zero_is : p ≡ 0 = sym its ∙ none in
          none_on plan f e k may none
          (ap (λ (s : Server). s.seen) server ∙ ap (λ (n : ℕ). with_numbered f.server.seen n (option_map resumed_seen (seen_at f.server n))) zero_is) refl)
    ]

served_on : (plan : Plan) (f : Facts) (c : ℕ) (x : Call) (r : Reply) → InStep plan f → May plan f (entry.Served c x r) → (b : Bool) → is_accepted r ≡ b → is_continue x ≡ false
    → (q : ℕ) → On (note plan f (entry.Served c x r)) q
served_on plan f c x r k may true is other =
    none_on plan f (entry.Served c x r) k may (ap (λ (b : Bool). if b then ordered_process x else 0) is ∙ unordered x may.rule.known other)
    (kept_if (λ (s : Server). s.seen) (is_accepted r) (called f.server c x) f.server (seen_kept f.server c x may.rule.known other)) refl
served_on plan f c x r k may false is other =
    none_on plan f (entry.Served c x r) k may (ap (λ (b : Bool). if b then ordered_process x else 0) is)
    (kept_if (λ (s : Server). s.seen) (is_accepted r) (called f.server c x) f.server (seen_kept f.server c x may.rule.known other)) refl

refused_on : (plan : Plan) (f : Facts) (c p : ℕ) (r : Reply) → InStep plan f → May plan f (entry.Served c (command.Continue p) r) → is_accepted r ≡ false
    → (q : ℕ) → On (note plan f (entry.Served c (command.Continue p) r)) q
refused_on plan f c p r k may is =
    none_on plan f (entry.Served c (command.Continue p) r) k may (ap (λ (b : Bool). if b then p else 0) is)
    (ap (λ (b : Bool). (if b then called f.server c (command.Continue p) else f.server).seen) is) refl

continued_on : (plan : Plan) (f : Facts) (c p : ℕ) (r : Reply) → InStep plan f → May plan f (entry.Served c (command.Continue p) r) → (b : Bool) → is_accepted r ≡ b
    → (q : ℕ) → On (note plan f (entry.Served c (command.Continue p) r)) q
continued_on plan f c p r k may true is = continue_on plan f c p r k may is
continued_on plan f c p r k may false is = refused_on plan f c p r k may is

-- Start
pub new_at : {A : Type 0} (d : A) (xs : List A) (x : A) (q n : ℕ) → length xs ≡ n → q ≡ n + 1 → numbered d (xs ++ x ∷ []) q ≡ x
new_at d xs x q n same next = elim (pushed d xs x q n same) [
  | inl both ↦ both.1
  | inr both ↦ absurd (both.0 next)
]

pub old_at : {A : Type 0} (d : A) (xs : List A) (x : A) (q n : ℕ) → length xs ≡ n → (q ≡ n + 1 → ⊥) → numbered d (xs ++ x ∷ []) q ≡ numbered d xs q
old_at d xs x q n same not = elim (pushed d xs x q n same) [
  | inl both ↦ absurd (not both.0)
  | inr both ↦ both.1
]

new_matches : (t : Run) → Matches (Some new_seen) unseen (Some t) None
new_matches t = record {
  agrees = record { interpreted = refl; stopped = refl; lives = refl; ended = refl; stands = λ stop none. absurd (none-some stop none) };
  over = λ no. refl;
  still = λ no. refl;
}

start_on : (plan : Plan) (f : Facts) (c p : ℕ) (m n : List ℕ) (args : Datum) → InStep plan f → May plan f (entry.Start c p m n args) → (q : ℕ) → On (note plan f (entry.Start c p m n args)) q
start_on plan f c p m n args k may q =
    let e = entry.Start c p m n args in
    let made = length f.plain.running in
    let is = start_makes plan f c p m n args may in
    let listed = k.keeps.holds.listed in
    let seen : (note plan f e).server.seen ≡ f.server.seen ++ Some new_seen ∷ [] = process_last f.server.seen p made may.rule.number listed in
    let seen_is = λ (x : Option Seen) (at : numbered None (f.server.seen ++ Some new_seen ∷ []) q ≡ x). ap (λ (xs : List (Option Seen)). numbered None xs q) seen ∙ at in
    elim (here_or (made + 1) q) [
      | inl same ↦
          by_parts (note plan f e) q (Some new_seen) unseen (Some (opening_call m n (elements args))) None
          (seen_is (Some new_seen) (new_at None f.server.seen (Some new_seen) q made listed (sym same)))
          (new_at unseen f.debuggees unseen q made k.keeps.holds.agree (sym same))
          (ap (λ (s : Plain). running_at s q) is ∙ new_at None f.plain.running (Some (opening_call m n (elements args))) q made refl (sym same))
          (ap (λ (s : Plain). (numbered new_member s.procs.members q).exit) is ∙ ap (λ (x : Member). x.exit) (new_at new_member f.plain.procs.members new_member q made k.members (sym same)))
          (new_matches (opening_call m n (elements args)))
      | inr other ↦
          (let not = λ (same : q ≡ made + 1). other (sym same) in
          by_parts (note plan f e) q (seen_at f.server q) (debuggee_at f q) (running_at f.plain q) (reason_of f q)
          (seen_is (seen_at f.server q) (old_at None f.server.seen (Some new_seen) q made listed not))
          (old_at unseen f.debuggees unseen q made k.keeps.holds.agree not)
          (ap (λ (s : Plain). running_at s q) is ∙ old_at None f.plain.running (Some (opening_call m n (elements args))) q made refl not)
          (ap (λ (s : Plain). (numbered new_member s.procs.members q).exit) is ∙ ap (λ (x : Member). x.exit) (old_at new_member f.plain.procs.members new_member q made k.members not))
          (k.each q))
    ]

-- each entry
on_step : (plan : Plan) (f : Facts) (e : Entry) → InStep plan f → May plan f e → (q : ℕ) → On (note plan f e) q
on_step plan f (entry.Start c p m n args) k may = start_on plan f c p m n args k may
on_step plan f (entry.Load c m v) k may = absurd (no_load plan f c m v may)
on_step plan f (entry.Skip c p) k may = absurd may.rule
on_step plan f (entry.Kill c p) k may = absurd may.rule
on_step plan f (entry.Expire c p) k may = absurd may.rule
on_step plan f (entry.Lease p b) k may = lease_on plan f p b k may
on_step plan f (entry.Ran p n c) k may = ran_on plan f p n c k may
on_step plan f (entry.Ask p x) k may = absurd may.rule
on_step plan f (entry.Did p x v bytes) k may = did_on plan f p x v bytes k may (act_comes plan f p x v bytes may.rule)
on_step plan f (entry.Took p) k may = absurd may.rule
on_step plan f (entry.Forward p) k may = absurd may.rule
on_step plan f (entry.Leave p) k may = leave_on plan f p k may
on_step plan f (entry.Enter p m n a) k may = enter_on plan f p m n a k may
on_step plan f (entry.Signal p r) k may = absurd may.rule
on_step plan f (entry.Advance t) k may = absurd (no_advance plan f t may)
on_step plan f (entry.Stop p m l n by) k may = stop_on plan f p m l n by k may
on_step plan f (entry.Trigger p m l s a applied) k may =
    trigger_on plan f (entry.Trigger p m l s a applied) k may (here_of plan f (entry.Trigger p m l s a applied) k may (λ no. no)) refl refl refl refl refl
on_step plan f (entry.Served c (command.Continue p) r) k may = continued_on plan f c p r k may (is_accepted r) refl
on_step plan f (entry.Served c x r) k may = served_on plan f c x r k may (is_accepted r) refl refl

-- as many are kept as have something to do, or had
members_step : (plan : Plan) (f : Facts) (e : Entry) → InStep plan f → May plan f e → length (note plan f e).plain.procs.members ≡ length (note plan f e).plain.running
members_step plan f (entry.Start c p m n args) k may =
    subst (λ (s : Plain). length s.procs.members ≡ length s.running) (sym (start_makes plan f c p m n args may))
    (let a = one_more f.plain.procs.members new_member in let b = one_more f.plain.running (Some (opening_call m n (elements args))) in let members = k.members in omega arith)
  where
    one_more : {A : Type 0} (xs : List A) (x : A) → length (xs ++ x ∷ []) ≡ length xs + 1
    one_more [] x = refl
    one_more (y ∷ ys) x = let rest = one_more ys x in omega arith
members_step plan f (entry.Load c m v) k may = absurd (no_load plan f c m v may)
members_step plan f (entry.Skip c p) k may = absurd may.rule
members_step plan f (entry.Kill c p) k may = absurd may.rule
members_step plan f (entry.Expire c p) k may = absurd may.rule
members_step plan f (entry.Ran p n c) k may =
    let ones = subst (λ (s : Plain). MovesOne f.plain s p) (sym (note_is plan f (entry.Ran p n c) may)) (moves_ones plan.code f.plain may.plain p n may.enabled) in
    let same = ap (λ procs. length procs.members) ones.procs in
    let count = (note_stays plan f (entry.Ran p n c) may).count in
    let none = none_started p n in
    let members = k.members in
    omega arith
members_step plan f (entry.Ask p x) k may = absurd may.rule
members_step plan f (entry.Did p x v bytes) k may = did_members plan f p x v bytes k may (act_comes plan f p x v bytes may.rule)
  where
    did_members : (plan : Plan) (f : Facts) (p : ℕ) (x : ActKind) (v bytes : List ℕ) → InStep plan f → May plan f (entry.Did p x v bytes) → (x ≡ kind.Print) ⊎ (x ≡ kind.End)
        → length (note plan f (entry.Did p x v bytes)).plain.procs.members ≡ length (note plan f (entry.Did p x v bytes)).plain.running
    did_members plan f p x v bytes k may (inl is) =
        let made = did_act plan f p x v bytes may in
        let there = subst (λ (y : ActKind). acted f.plain p (acts_in f p may.rule.act may.rule.turn).ready.running (acts y) ≡ Some may.plain) is made in
        let plain = same_Some _ may.plain there ∙ sym (note_is plan f (entry.Did p x v bytes) may) in
        let count = (note_stays plan f (entry.Did p x v bytes) may).count in
        let same = ap (λ (s : Plain). length s.procs.members) plain in
        let members = k.members in
        omega arith
    did_members plan f p x v bytes k may (inr is) =
        let made = did_act plan f p x v bytes may in
        let there = subst (λ (y : ActKind). acted f.plain p (acts_in f p may.rule.act may.rule.turn).ready.running (acts y) ≡ Some may.plain) is made in
        let plain = same_Some (ended f.plain p (exit_reason (acts_in f p may.rule.act may.rule.turn).ready.running)) may.plain there ∙ sym (note_is plan f (entry.Did p x v bytes) may) in
        let count = (note_stays plan f (entry.Did p x v bytes) may).count in
        let same = ap (λ (s : Plain). length s.procs.members) plain in
        let set = with_length f.plain.procs.members p (ended_member (exit_reason (acts_in f p may.rule.act may.rule.turn).ready.running) (numbered new_member f.plain.procs.members p)) in
        let members = k.members in
        omega arith
members_step plan f (entry.Took p) k may = absurd may.rule
members_step plan f (entry.Forward p) k may = absurd may.rule
members_step plan f (entry.Signal p r) k may = absurd may.rule
members_step plan f (entry.Advance t) k may = absurd (no_advance plan f t may)
members_step plan f _ k may = k.members

pub in_step : (plan : Plan) (f : Facts) (e : Entry) → InStep plan f → May plan f e → InStep plan (note plan f e)
in_step plan f e k may = record {
  keeps = keeps_step plan f e k.keeps may;
  there = there_step plan f e k.there may;
  members = members_step plan f e k may;
  each = on_step plan f e k may;
}

first_on : (plan : Plan) (q : ℕ) → On (at_first plan) q
first_on plan zero = record {
  agrees = record { interpreted = refl; stopped = refl; lives = refl; ended = refl; stands = λ stop none. absurd (none-some stop none) };
  over = λ no. refl;
  still = λ no. refl;
}
first_on plan (suc n) = record {
  agrees = record { interpreted = refl; stopped = refl; lives = refl; ended = refl; stands = λ stop none. absurd (none-some stop none) };
  over = λ no. refl;
  still = λ no. refl;
}

pub first_step : (plan : Plan) → InStep plan (at_first plan)
first_step plan = record { keeps = first_keeps plan; there = tt; members = refl; each = first_on plan }

pub agrees_at : (plan : Plan) (journal : List Entry) (p : ℕ) → Legal plan journal → AgreesOn (facts plan journal) p
agrees_at plan journal p legal = ((kept_from plan (InStep plan) (in_step plan) (at_first plan) journal (first_step plan) legal).each p).agrees
