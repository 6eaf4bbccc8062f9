-- The status that the interpreter server shows of a process after a legal journal is what the journal's last entry says that
-- speaks of the process.

use Rattle.std.proofs.Common.{◌≡◌, ◌⊎◌, inl, inr, ℕ, zero, suc, Bool, true, false, if◌then◌else◌, not, ◌&&◌, nat_eq, is_some, is_none, List, [], ◌∷◌, length, Option, None, Some, refl, sym, ◌∙◌, ap, subst, arith}
use Rattle.std.specs.List.{fold}
use Rattle.std.specs.Option.{option_map, option_map_or}
use Rattle.std.proofs.lemmas.Bool.{both_ways, eq-eqb, ne_eqb}
use Rattle.edb_lang.specs.Terms.{Datum}
use Rattle.edb_lang.specs.declared.act.ActKind.{ActKind}
use Rattle.edb_lang.specs.declared.act.ActKind.TheVariants as kind
use Rattle.edb_model.specs.Plain.{running_at}
use Rattle.edb_model.specs.Running.{Run}
use Rattle.edb_model.specs.Procs.{numbered, with_numbered}
use Rattle.edb_event.specs.declared.call.Call.{Call}
use Rattle.edb_event.specs.declared.call.Call.TheVariants as command
use Rattle.edb_event.specs.declared.call.ProcStatus.{ProcStatus}
use Rattle.edb_event.specs.declared.call.ProcStatus.TheVariants as status
use Rattle.edb_event.specs.declared.reply.Reply.{Reply}
use Rattle.edb_event.specs.declared.reply.Reply.TheVariants as reply
use Rattle.edb_event.specs.declared.reply.Refusal.TheVariants as refusal
use Rattle.edb_event.specs.declared.entry.Cause.{Cause}
use Rattle.edb_event.specs.declared.entry.Entry.{Entry}
use Rattle.edb_event.specs.declared.entry.Entry.TheVariants as entry
use Rattle.edb_rules.specs.Plans.{Plan}
use Rattle.edb_rules.specs.Facts.{Facts, at_first, debuggee_at}
use Rattle.edb_rules.specs.Seen.{Seen, SeenCall, SeenStop, new_seen, status_of}
use Rattle.edb_rules.specs.Server.{Server, seen_at, is_made, is_interpreted, stop_at}
use Rattle.edb_rules.specs.Refusals.{not_interpreted}
use Rattle.edb_rules.specs.Replies.{is_served, is_accepted}
use Rattle.edb_rules.specs.Called.{called, resumed_seen}
use Rattle.edb_rules.specs.Noted.{while_lives, entered_seen, left_seen, stopped_seen, ended_seen}
use Rattle.edb_rules.specs.News.{frames_in}
use Rattle.edb_rules.specs.Notes.{note, after, facts}
use Rattle.edb_rules.specs.Legal.{May, LegalFrom, Legal}
use Rattle.edb_rules.specs.Agrees.{seen_inside, seen_living, seen_stop}
use Rattle.edb_rules.specs.Statuses.{lets_go, status_with, status_by, is_inside, is_halted}
use Rattle.edb_rules.proofs.Entries.{kept_from}
use Rattle.edb_rules.proofs.Kept.{no_load, act_comes}
use Rattle.edb_rules.proofs.Made.{IsShort, short, not_short, kept_if}
use Rattle.edb_rules.proofs.SeenLists.{made_within, process_last}
use Rattle.edb_rules.proofs.Present.{IsPresent, here_or, with_exact, lives_known, accepted_unrefused, first_none, rest_none, not_false}
use Rattle.edb_rules.proofs.Turning.{acts_in}
use Rattle.edb_rules.proofs.Endings.{first_there}
use Rattle.edb_rules.proofs.Agreeing.{living}
use Rattle.edb_rules.proofs.ServerAgrees.{is_continue, seen_kept, new_at, old_at, here_of}
use Rattle.edb_rules.proofs.Settled.{Settled, fits, settled_step, first_settled}

-- What was seen of a process shows this status, and its meta doesn't wait for a message.
abbrev waits : Option Seen → Bool
waits o = option_map_or (λ (x : Seen). x.is_waiting) o false

pub record Shows (o : Option Seen) (s : Option ProcStatus) : Type 0 where
  pub status : option_map status_of o ≡ s
  pub awake : waits o ≡ false

shows_same : (o p : Option Seen) (s : Option ProcStatus) → p ≡ o → Shows o s → Shows p s
shows_same o p s same k = subst (λ (x : Option Seen). Shows x s) (sym same) k

-- a status by its four marks
by_marks : (x : Seen) (ended stopped inside : Bool) → is_some x.ended ≡ ended → is_some x.stop ≡ stopped → x.is_interpreted ≡ inside → x.is_waiting ≡ false
    → status_of x ≡ (if ended then status.Exit else if stopped then status.Break else if inside then status.Running else status.Idle)
by_marks x ended stopped inside e s i w = rw (e, s, i, w) refl

none_some : {A : Type 0} (o : Option A) → is_none o ≡ true → is_some o ≡ false
none_some None e = refl
none_some (Some a) e = absurd (both_ways false refl e)

-- an entry that changes what was seen of process p says its status
seen_with : (seen : List (Option Seen)) (p q : ℕ) (y : Option Seen) (t : ProcStatus) (s : Option ProcStatus) → IsPresent (length seen) p
    → (p ≡ q → Shows y (Some t)) → Shows (numbered None seen q) s → Shows (numbered None (with_numbered seen p y) q) (if nat_eq p q then Some t else s)
seen_with seen p q y t s here its others = shows_same _ _ _ (with_exact None seen p y q here) (by (here_or p q))
  where
    at : (b : Bool) → nat_eq p q ≡ b → Shows (if b then y else numbered None seen q) (if b then Some t else s) → Shows (if nat_eq p q then y else numbered None seen q) (if nat_eq p q then Some t else s)
    at b is k = rw is k

    by : (p ≡ q) ⊎ (p ≡ q → ⊥) → Shows (if nat_eq p q then y else numbered None seen q) (if nat_eq p q then Some t else s)
    by (inl same) = at true (eq-eqb p q same) (its same)
    by (inr other) = at false (ne_eqb p q other) others

listed_here : (plan : Plan) (f : Facts) (p : ℕ) → Settled plan f → IsPresent (length f.debuggees) p → IsPresent (length f.server.seen) p
listed_here plan f p k here =
    let agree = k.step.keeps.holds.agree in
    let listed = k.step.keeps.holds.listed in
    let low = here.0 in
    let high = here.1 in
    (omega arith, omega arith)

module _ (plan : Plan) (f : Facts) (q : ℕ) (s : Option ProcStatus) (k : Settled plan f) (shows : Shows (seen_at f.server q) s) where
  -- what is known of process q, if it is p
  its_shows : (p : ℕ) → p ≡ q → Shows (seen_at f.server p) s
  its_shows p same = subst (λ (n : ℕ). Shows (seen_at f.server n) s) (sym same) shows

  alive_inside : (p : ℕ) → seen_inside (seen_at f.server p) ≡ true → seen_living (seen_at f.server p) ≡ true
  alive_inside p inside = by (seen_living (seen_at f.server p)) refl
    where
      by : (b : Bool) → seen_living (seen_at f.server p) ≡ b → seen_living (seen_at f.server p) ≡ true
      by true is = is
      by false is = absurd (both_ways _ ((k.step.each p).over is) inside)

  alive : (p : ℕ) (t : Run) → running_at f.plain p ≡ Some t → seen_living (seen_at f.server p) ≡ true
  alive p t lives = (k.step.each p).agrees.lives ∙ ap (λ (o : Option Run). is_some o) lives

  known_inside : (p : ℕ) → (debuggee_at f p).is_interpreted ≡ true → seen_inside (seen_at f.server p) ≡ true
  known_inside p is = (k.step.each p).agrees.interpreted ∙ is

  -- a change of one that lives
  changed_shows : (p : ℕ) (change : Seen → Seen) (t : ProcStatus) → seen_living (seen_at f.server p) ≡ true
      → ((x : Seen) → seen_at f.server p ≡ Some x → is_some x.ended ≡ false → x.is_waiting ≡ false → (status_of (change x) ≡ t) × ((change x).is_waiting ≡ false))
      → p ≡ q → Shows (option_map (while_lives change) (seen_at f.server p)) (Some t)
  changed_shows p change t lives its same =
      let l = living (seen_at f.server p) change lives in
      let x = l.seen in
      let ended = none_some x.ended (subst (λ (o : Option Seen). seen_living o ≡ true) l.is lives) in
      let awake = subst (λ (o : Option Seen). waits o ≡ false) l.is (its_shows p same).awake in
      let both = its x l.is ended awake in
      shows_same _ _ _ l.changed (record { status = ap (λ (y : ProcStatus). Some y) both.0; awake = both.1 })

  -- it isn't stopped
  goes : (p : ℕ) (x : Seen) → (debuggee_at f p).is_stopped ≡ false → seen_at f.server p ≡ Some x → is_some x.stop ≡ false
  goes p x free is = sym (ap (λ (o : Option Seen). is_some (seen_stop o)) is) ∙ ((k.step.each p).agrees.stopped ∙ free)

  enter_shows : (p : ℕ) (m n : List ℕ) (a : ℕ) → May plan f (entry.Enter p m n a) → Shows (seen_at (note plan f (entry.Enter p m n a)).server q) (status_with q s (entry.Enter p m n a))
  enter_shows p m n a may =
      let e = entry.Enter p m n a in
      let tells = first_there plan f e may.rule.0 may.rule.1 k.step.there in
      let call : SeenCall = record { home = m; name = n; arity = a } in
      seen_with f.server.seen p q _ status.Running s (listed_here plan f p k (here_of plan f e k.step may (λ no. no)))
      (changed_shows p (entered_seen call) status.Running (alive p tells.running tells.lives)
      (λ x is ended awake. (by_marks (entered_seen call x) false false true ended (goes p x (fits plan f e k may).1 is) refl awake, awake)))
      shows

  leave_shows : (p : ℕ) → May plan f (entry.Leave p) → Shows (seen_at (note plan f (entry.Leave p)).server q) (status_with q s (entry.Leave p))
  leave_shows p may =
      let e = entry.Leave p in
      let fit = fits plan f e k may in
      seen_with f.server.seen p q _ status.Idle s (listed_here plan f p k (here_of plan f e k.step may (λ no. no)))
      (changed_shows p left_seen status.Idle (alive_inside p (known_inside p fit.2))
      (λ x is ended awake. (by_marks (left_seen x) false false false ended (goes p x fit.1 is) refl refl, refl)))
      shows

  stop_shows : (p : ℕ) (m : List ℕ) (l n : ℕ) (by : Cause) → May plan f (entry.Stop p m l n by) → Shows (seen_at (note plan f (entry.Stop p m l n by)).server q) (status_with q s (entry.Stop p m l n by))
  stop_shows p m l n by may =
      let e = entry.Stop p m l n by in
      let stop : SeenStop = record { home = m; line = l; level = n; frames = frames_in l (running_at f.plain p) } in
      seen_with f.server.seen p q _ status.Break s (listed_here plan f p k (here_of plan f e k.step may (λ no. no)))
      (changed_shows p (stopped_seen stop) status.Break (alive_inside p (known_inside p (fits plan f e k may)))
      (λ x is ended awake. (by_marks (stopped_seen stop x) false true _ ended refl refl awake, awake)))
      shows

  end_shows : (p : ℕ) (v bytes : List ℕ) → May plan f (entry.Did p kind.End v bytes) → Shows (seen_at (note plan f (entry.Did p kind.End v bytes)).server q) (if nat_eq p q then Some status.Exit else s)
  end_shows p v bytes may =
      let ready = (acts_in f p may.rule.act may.rule.turn).ready in
      seen_with f.server.seen p q _ status.Exit s (listed_here plan f p k (lives_known f p ready.running k.step.keeps.holds.agree ready.lives))
      (changed_shows p (ended_seen v) status.Exit (alive p ready.running ready.lives) (λ x is ended awake. (refl, refl)))
      shows

  -- an act
  and_true : (b : Bool) → (if b && true then Some status.Exit else s) ≡ (if b then Some status.Exit else s)
  and_true true = refl
  and_true false = refl

  and_false : (b : Bool) → s ≡ (if b && false then Some status.Exit else s)
  and_false true = refl
  and_false false = refl

  did_shows : (p : ℕ) (x : ActKind) (v bytes : List ℕ) → May plan f (entry.Did p x v bytes) → (x ≡ kind.Print) ⊎ (x ≡ kind.End)
      → Shows (seen_at (note plan f (entry.Did p x v bytes)).server q) (status_with q s (entry.Did p x v bytes))
  did_shows p x v bytes may (inl is) =
      subst (λ (y : ActKind). Shows (seen_at (note plan f (entry.Did p y v bytes)).server q) (status_with q s (entry.Did p y v bytes))) (sym is)
      (subst (Shows (seen_at f.server q)) (and_false (nat_eq p q)) shows)
  did_shows p x v bytes may (inr is) =
      subst (λ (y : ActKind). May plan f (entry.Did p y v bytes) → Shows (seen_at (note plan f (entry.Did p y v bytes)).server q) (status_with q s (entry.Did p y v bytes))) (sym is)
      (λ m. subst (Shows _) (sym (and_true (nat_eq p q))) (end_shows p v bytes m)) may

  -- a start
  start_shows : (c p : ℕ) (m n : List ℕ) (args : Datum) → May plan f (entry.Start c p m n args) → Shows (seen_at (note plan f (entry.Start c p m n args)).server q) (status_with q s (entry.Start c p m n args))
  start_shows c p m n args may =
      let made = length f.plain.running in
      let listed = k.step.keeps.holds.listed in
      let seen = process_last f.server.seen p made may.rule.number listed in
      let number = may.rule.number in
      shows_same _ _ _ (ap (λ (xs : List (Option Seen)). numbered None xs q) seen) (elim (here_or p q) [
        | inl same ↦
            (let yes = eq-eqb p q same in
            shows_same _ _ _ (new_at None f.server.seen (Some new_seen) q made listed (sym same ∙ number))
            (subst (Shows (Some new_seen)) (sym (ap (λ (b : Bool). if b then Some status.Idle else s) yes)) (record { status = refl; awake = refl })))
        | inr other ↦
            (let no = ne_eqb p q other in
            shows_same _ _ _ (old_at None f.server.seen (Some new_seen) q made listed (λ same. other (number ∙ sym same)))
            (subst (Shows (seen_at f.server q)) (sym (ap (λ (b : Bool). if b then Some status.Idle else s) no)) shows))
      ])

  -- a command that lets a process go on, and was done
  done_shows : (c p : ℕ) → May plan f (entry.Served c (command.Continue p) reply.Ok) → Shows (seen_at (note plan f (entry.Served c (command.Continue p) reply.Ok)).server q) (if nat_eq p q then Some status.Running else s)
  done_shows c p may =
      let none = accepted_unrefused plan f c (command.Continue p) reply.Ok may.rule.answer refl in
      let second = not_interpreted f.server p ∷ [] in
      let made = not_false (is_made f.server p) (first_none (not (is_made f.server p)) refusal.NoProcess second none) in
      let inside = not_false (is_interpreted f.server p) (first_none (not (is_interpreted f.server p)) refusal.NotInterpreted [] (rest_none (not (is_made f.server p)) refusal.NoProcess second none)) in
      seen_with f.server.seen p q _ status.Running s (made_within f.server p made) (its inside) shows
    where
      resumed : (o : Option Seen) → seen_living o ≡ true → seen_inside o ≡ true → waits o ≡ false → Shows (option_map resumed_seen o) (Some status.Running)
      resumed None lives inside awake = absurd (both_ways false refl lives)
      resumed (Some x) lives inside awake =
          record { status = ap (λ (y : ProcStatus). Some y) (by_marks (resumed_seen x) false false true (none_some x.ended lives) refl inside awake); awake = awake }

      its : seen_inside (seen_at f.server p) ≡ true → p ≡ q → Shows (option_map resumed_seen (seen_at f.server p)) (Some status.Running)
      its inside same = resumed (seen_at f.server p) (alive_inside p inside) inside (its_shows p same).awake

  continue_shows : (c p : ℕ) (r : Reply) → May plan f (entry.Served c (command.Continue p) r) → IsShort r
      → Shows (seen_at (note plan f (entry.Served c (command.Continue p) r)).server q) (status_with q s (entry.Served c (command.Continue p) r))
  continue_shows c p reply.Ok may is = done_shows c p may
  continue_shows c p (reply.Refused why) may is = shows
  continue_shows c p reply.Quiet may is = shows
  continue_shows c p (reply.Status n t) may is = not_short (reply.Status n t) refl (λ e. cc) is
  continue_shows c p (reply.Rows rs) may is = not_short (reply.Rows rs) refl (λ e. cc) is

  -- any other command
  lets_none : (x : Call) → is_served x ≡ true → is_continue x ≡ false → lets_go q x ≡ false
  lets_none (command.Continue p) known other = absurd (both_ways true other refl)
  lets_none (command.Step p) known other = absurd (both_ways false refl known)
  lets_none (command.Next p) known other = absurd (both_ways false refl known)
  lets_none (command.Finish p) known other = absurd (both_ways false refl known)
  lets_none _ known other = refl

  stays_so : (c : ℕ) (x : Call) (r : Reply) → lets_go q x ≡ false → s ≡ status_with q s (entry.Served c x r)
  stays_so c x reply.Ok none = sym (ap (λ (b : Bool). if b then Some status.Running else s) none)
  stays_so c x (reply.Refused why) none = refl
  stays_so c x reply.Quiet none = refl
  stays_so c x (reply.Status n t) none = refl
  stays_so c x (reply.Rows rs) none = refl

  served_shows : (c : ℕ) (x : Call) (r : Reply) → May plan f (entry.Served c x r) → is_continue x ≡ false
      → Shows (seen_at (note plan f (entry.Served c x r)).server q) (status_with q s (entry.Served c x r))
  served_shows c x r may other =
      subst (Shows _) (stays_so c x r (lets_none x may.rule.known other))
      (shows_same _ _ _ (ap (λ (xs : List (Option Seen)). numbered None xs q) (kept_if (λ (y : Server). y.seen) (is_accepted r) (called f.server c x) f.server (seen_kept f.server c x may.rule.known other))) shows)

  -- each entry
  shows_step : (e : Entry) → May plan f e → Shows (seen_at (note plan f e).server q) (status_with q s e)
  shows_step (entry.Start c p m n args) may = start_shows c p m n args may
  shows_step (entry.Load c m v) may = absurd (no_load plan f c m v may)
  shows_step (entry.Skip c p) may = absurd may.rule
  shows_step (entry.Kill c p) may = absurd may.rule
  shows_step (entry.Expire c p) may = absurd may.rule
  shows_step (entry.Ask p x) may = absurd may.rule
  shows_step (entry.Did p x v bytes) may = did_shows p x v bytes may (act_comes plan f p x v bytes may.rule)
  shows_step (entry.Took p) may = absurd may.rule
  shows_step (entry.Forward p) may = absurd may.rule
  shows_step (entry.Leave p) may = leave_shows p may
  shows_step (entry.Enter p m n a) may = enter_shows p m n a may
  shows_step (entry.Signal p r) may = absurd may.rule
  shows_step (entry.Stop p m l n by) may = stop_shows p m l n by may
  shows_step (entry.Served c (command.Continue p) r) may = continue_shows c p r may (short plan f c (command.Continue p) r refl may.rule.answer)
  shows_step (entry.Served c x r) may = served_shows c x r may refl
  shows_step _ may = shows

shows_from : (plan : Plan) (f : Facts) (es : List Entry) (q : ℕ) (s : Option ProcStatus) → Settled plan f → Shows (seen_at f.server q) s → LegalFrom plan f es
    → Shows (seen_at (after plan f es).server q) (fold (status_with q) s es)
shows_from plan f [] q s k shows legal = shows
shows_from plan f (e ∷ es) q s k shows legal =
    shows_from plan (note plan f e) es q (status_with q s e) (settled_step plan f e k legal.0) (shows_step plan f q s k shows e legal.0) legal.1

first_shows : (plan : Plan) (q : ℕ) → Shows (seen_at (at_first plan).server q) None
first_shows plan zero = record { status = refl; awake = refl }
first_shows plan (suc n) = record { status = refl; awake = refl }

shows_at : (plan : Plan) (journal : List Entry) (q : ℕ) → Legal plan journal → Shows (seen_at (facts plan journal).server q) (status_by q journal)
shows_at plan journal q legal = shows_from plan (at_first plan) journal q None (first_settled plan) (first_shows plan q) legal

settled_at : (plan : Plan) (journal : List Entry) → Legal plan journal → Settled plan (facts plan journal)
settled_at plan journal legal = kept_from plan (Settled plan) (settled_step plan) (at_first plan) journal (first_settled plan) legal

pub status_is : (plan : Plan) (journal : List Entry) (q : ℕ) → Legal plan journal → option_map status_of (seen_at (facts plan journal).server q) ≡ status_by q journal
status_is plan journal q legal = (shows_at plan journal q legal).status

-- so the status tells whether the process is interpreted, and whether it is stopped
inside_marks : (ended stopped inside waiting : Bool) → (ended ≡ true → inside ≡ false) → (stopped ≡ true → inside ≡ true)
    → inside ≡ is_inside (Some (if ended then status.Exit else if stopped then status.Break else if inside then (if waiting then status.Waiting else status.Running) else status.Idle))
inside_marks true stopped inside waiting over held = over refl
inside_marks false true inside waiting over held = held refl
inside_marks false false true true over held = refl
inside_marks false false true false over held = refl
inside_marks false false false waiting over held = refl

halted_marks : (ended stopped inside waiting : Bool) → (stopped ≡ true → ended ≡ false)
    → stopped ≡ is_halted (Some (if ended then status.Exit else if stopped then status.Break else if inside then (if waiting then status.Waiting else status.Running) else status.Idle))
halted_marks true true inside waiting lives = absurd (both_ways true (lives refl) refl)
halted_marks true false inside waiting lives = refl
halted_marks false true inside waiting lives = refl
halted_marks false false true true lives = refl
halted_marks false false true false lives = refl
halted_marks false false false waiting lives = refl

some_none : {A : Type 0} (o : Option A) → is_some o ≡ true → is_none o ≡ false
some_none None e = absurd (both_ways false refl e)
some_none (Some a) e = refl

inside_of : (o : Option Seen) → (seen_living o ≡ false → seen_inside o ≡ false) → (is_some (seen_stop o) ≡ true → seen_inside o ≡ true)
    → seen_inside o ≡ is_inside (option_map status_of o)
inside_of None over held = refl
inside_of (Some x) over held = inside_marks (is_some x.ended) (is_some x.stop) x.is_interpreted x.is_waiting (λ e. over (some_none x.ended e)) held

halted_of : (o : Option Seen) → (is_some (seen_stop o) ≡ true → seen_living o ≡ true) → is_some (seen_stop o) ≡ is_halted (option_map status_of o)
halted_of None lives = refl
halted_of (Some x) lives = halted_marks (is_some x.ended) (is_some x.stop) x.is_interpreted x.is_waiting (λ e. none_some x.ended (lives e))

held_inside : (plan : Plan) (f : Facts) (q : ℕ) → Settled plan f → is_some (seen_stop (seen_at f.server q)) ≡ true → seen_inside (seen_at f.server q) ≡ true
held_inside plan f q k stopped = (let a = (k.step.each q).agrees in a.interpreted ∙ (k.steady q).1 (sym a.stopped ∙ stopped))

held_living : (plan : Plan) (f : Facts) (q : ℕ) → Settled plan f → is_some (seen_stop (seen_at f.server q)) ≡ true → seen_living (seen_at f.server q) ≡ true
held_living plan f q k stopped = by (seen_living (seen_at f.server q)) refl
  where
    by : (b : Bool) → seen_living (seen_at f.server q) ≡ b → seen_living (seen_at f.server q) ≡ true
    by true is = is
    by false is = absurd (both_ways _ ((k.step.each q).over is) (held_inside plan f q k stopped))

pub inside_is : (plan : Plan) (journal : List Entry) (q : ℕ) → Legal plan journal → is_interpreted (facts plan journal).server q ≡ is_inside (status_by q journal)
inside_is plan journal q legal =
    let k = settled_at plan journal legal in
    inside_of (seen_at (facts plan journal).server q) (k.step.each q).over (held_inside plan (facts plan journal) q k)
    ∙ ap is_inside (status_is plan journal q legal)

pub halted_is : (plan : Plan) (journal : List Entry) (q : ℕ) → Legal plan journal → is_some (stop_at (facts plan journal).server q) ≡ is_halted (status_by q journal)
halted_is plan journal q legal =
    halted_of (seen_at (facts plan journal).server q) (held_living plan (facts plan journal) q (settled_at plan journal legal)) ∙ ap is_halted (status_is plan journal q legal)
