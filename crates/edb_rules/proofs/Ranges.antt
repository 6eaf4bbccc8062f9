-- An entry that may stand behind a legal journal has its fields in range, where the code is within its bounds and the
-- commands are in range.

use Rattle.std.proofs.Common.{◌≡◌, inl, inr, ℕ, zero, suc, Bool, true, false, if◌then◌else◌, nat_eq, List, [], ◌∷◌, Option, None, Some, unwrap_or, slice_index_or, replicate, refl, sym, ◌∙◌, subst, arith}
use Rattle.std.specs.List.{All}
use Rattle.std.specs.Option.{option_map}
use Rattle.std.proofs.lemmas.List.Elements.{All-nil, All-push}
use Rattle.edb_lang.specs.declared.small.Break.{Break}
use Rattle.edb_model.specs.declared.tables.NameRow.{NameRow}
use Rattle.edb_model.specs.Running.{Info, Run}
use Rattle.edb_model.specs.Innermost.{innermost}
use Rattle.edb_model.specs.Procs.{numbered}
use Rattle.edb_event.specs.declared.call.Call.{Call}
use Rattle.edb_event.specs.declared.call.Call.TheVariants as command
use Rattle.edb_event.specs.declared.call.Command.{Command}
use Rattle.edb_event.specs.declared.call.ProcStatus.{ProcStatus}
use Rattle.edb_event.specs.declared.reply.Refusal.{Refusal}
use Rattle.edb_event.specs.declared.call.Word.{Word}
use Rattle.edb_event.specs.declared.call.Word.TheVariants as word
use Rattle.edb_event.specs.declared.reply.Reply.TheVariants as reply
use Rattle.edb_event.specs.declared.entry.Cause.{Cause}
use Rattle.edb_event.specs.declared.entry.Cause.TheVariants as cause
use Rattle.edb_event.specs.declared.entry.Entry.{Entry}
use Rattle.edb_event.specs.declared.entry.Entry.TheVariants as entry
use Rattle.edb_event.specs.Books.{commands_of}
use Rattle.edb_event.specs.Ranges.{IsShort, IsNumber, IsCall, IsEntry, AreEntries, IsWord, IsCommand, AreCommands, AreScripts}
use Rattle.std.proofs.lemmas.Bool.{both_ways}
use Rattle.edb_rules.specs.Plans.{Plan}
use Rattle.edb_rules.specs.Facts.{Console, Debuggee, OwedTrigger, Facts, at_first, new_console, console_at, debuggee_at}
use Rattle.edb_rules.specs.Consoles.{command_of, console_with, consoles_by}
use Rattle.edb_rules.specs.Slices.{SliceEnd, leaves, act_next, enters, stops, spent, after_moves, row_among}
use Rattle.edb_rules.specs.SliceEnds.{no_body, body_in, end_entries, coming_after}
use Rattle.edb_rules.specs.Replies.{named_process, process_of, about, next_call, is_served}
use Rattle.edb_rules.specs.Refusals.{refused}
use Rattle.edb_rules.specs.Answers.{has_status, answer, reply_of}
use Rattle.edb_rules.specs.Notes.{debuggee_with, owed_for, owed_by, behind_first, note, facts}
use Rattle.edb_rules.specs.Orders.{order_of}
use Rattle.edb_rules.specs.Legal.{IsAnswer, MayRun, May, Legal}
use Rattle.edb_rules.specs.Bounds.{AreBounded}
use Rattle.edb_rules.proofs.Entries.{kept_from}
use Rattle.edb_rules.proofs.Kept.{no_load, note_stays, start_few}
use Rattle.edb_rules.proofs.Changes.{each, order_keeps, act_keeps}
use Rattle.edb_rules.proofs.Present.{coming_is, with_exact}
use Rattle.edb_rules.proofs.Commanded.{IsEight, eight_step, next_command, next_stands, console_within}
use Rattle.edb_rules.proofs.Listed.{each_or}
use Rattle.edb_rules.proofs.Refusals.{is_reply}
use Rattle.edb_rules.proofs.Bodies.{IsBoundedBody, AllBodies, no_name, innermost_is, moves_are, place_is}
use Rattle.edb_rules.proofs.Bounds.{AllRun, RunsBounded, runs_at, note_runs, command_is}

-- a trigger that is owed names a module with a short name
abbrev OwesShort : Option OwedTrigger → Type 0
OwesShort None = Unit {0}
OwesShort (Some o) = IsShort o.home

-- a console's processes have numbers in range
record InRange (k : Console) : Type 0 where
  pub own : All IsNumber k.own
  pub last : IsNumber k.last

-- What the ranges of the entries to come rest on.
record Ranged (f : Facts) : Type 0 where
  pub coming : AreEntries f.coming
  pub owed : (p : ℕ) → OwesShort (debuggee_at f p).owed
  pub eight : IsEight f
  pub consoles : (c : ℕ) → InRange (console_at f c)
  pub names : f.plain.procs.names ≡ []
  pub run : AllRun f.plain

none_to_come : (es : List Entry) → es ≡ [] → AreEntries es
none_to_come es none = subst AreEntries (sym none) tt

rest_to_come : (es : List Entry) → AreEntries es → AreEntries (behind_first es)
rest_to_come [] all = tt
rest_to_come (e ∷ es) all = all.1

first_to_come : (es : List Entry) (e : Entry) (rest : List Entry) → es ≡ e ∷ rest → AreEntries es → IsEntry e
first_to_come es e rest is all = let there : AreEntries (e ∷ rest) = subst AreEntries is all in there.0

-- the entries of a slice's end
inner_or : (o : Option Info) → ((i : Info) → o ≡ Some i → IsBoundedBody i) → IsBoundedBody (unwrap_or o no_body)
inner_or None each_ = (no_name, no_name, omega arith)
inner_or (Some i) each_ = each_ i refl

ends_in_range : (p : ℕ) (t : Run) (end : SliceEnd) → IsBoundedBody (body_in t) → AllBodies t → AreEntries (end_entries p t end)
ends_in_range p t leaves inner all = (tt, tt)
ends_in_range p t act_next inner all = tt
ends_in_range p t (enters None) inner all = ((inner.0, inner.1), tt)
ends_in_range p t (enters (Some why)) inner all = ((inner.0, inner.1), (place_is t all, tt))
ends_in_range p t (stops why) inner all = (place_is t all, tt)
ends_in_range p t spent inner all = tt

ran_in_range : (plan : Plan) (f : Facts) (p n c : ℕ) → AreBounded plan.code → AllRun f.plain → MayRun plan f p n c → AreEntries (coming_after plan f p n)
ran_in_range plan f p n c bounded run may =
    let versions = (debuggee_at f p).handout.versions in
    let t = after_moves plan.code versions n may.running in
    let all : AllBodies t = moves_are plan.code versions n may.running bounded (runs_at f.plain run p may.running may.lives) in
    subst AreEntries (sym (coming_is plan f p n may.running may.end may.lives may.slice.ends))
    (ends_in_range p t may.end (inner_or (innermost t) (λ i is. innermost_is t i all is)) all)

-- the trigger of a stop
mapped_short : (owes : Break → OwedTrigger) (o : Option Break) → ((b : Break) → IsShort (owes b).home) → OwesShort (option_map owes o)
mapped_short owes None each_ = tt
mapped_short owes (Some b) each_ = each_ b

stop_owes : (d : Debuggee) (m : List ℕ) (l : ℕ) (by : Cause) → IsShort m → OwesShort (owed_by d.handout.rows m l by)
stop_owes d m l cause.Order short = tt
stop_owes d m l (cause.Break serial) short = mapped_short (owed_for m l serial) (row_among m l d.handout.rows) (λ b. short)

owed_with : (plan : Plan) (f : Facts) (e : Entry) (d : Debuggee) → AreEntries f.coming → May plan f e → OwesShort d.owed → OwesShort (debuggee_with f e d).owed
owed_with plan f (entry.Stop p m l n by) d coming may owes = stop_owes d m l by (first_to_come f.coming (entry.Stop p m l n by) may.rule.0 may.rule.1 coming)
owed_with plan f (entry.Trigger p m l s a applied) d coming may owes = tt
owed_with plan f (entry.Did p k v bytes) d coming may owes = subst OwesShort (sym (act_keeps (λ (x : Debuggee). x.owed) (λ x b. refl) (λ x. refl) k d)) owes
owed_with plan f (entry.Served c x r) d coming may owes = subst OwesShort (sym (order_keeps (λ (y : Debuggee). y.owed) (λ y m. refl) (λ y m. refl) (order_of f.plain x) d)) owes
owed_with plan f (entry.Signal p r) d coming may owes = absurd may.rule
owed_with plan f _ d coming may owes = owes

-- the next command of a console
named_in_range : (x : List ℕ) (rows : List NameRow) → rows ≡ [] → IsNumber (named_process x rows)
named_in_range x rows none = subst (λ (rs : List NameRow). IsNumber (named_process x rs)) (sym none) (let least : IsNumber 0 = omega arith in least)

word_in_range : (f : Facts) (c : ℕ) (w : Word) → Ranged f → IsWord w → IsNumber (process_of f c w)
word_in_range f c word.Absent r is = omega arith
word_in_range f c (word.Number n) r is = is
word_in_range f c (word.Own zero) r is = omega arith
word_in_range f c (word.Own (suc k)) r is = each_or IsNumber (console_at f c).own 0 (omega arith) (r.consoles c).own k
word_in_range f c (word.Named x) r is = named_in_range x f.plain.procs.names r.names
word_in_range f c word.Last r is = (r.consoles c).last

about_in_range : (x : Call) (p : ℕ) → IsCall x → IsNumber p → IsCall (about x p)
about_in_range (command.Ia q) p is number = number
about_in_range (command.Detach q) p is number = number
about_in_range (command.Step q) p is number = number
about_in_range (command.Next q) p is number = number
about_in_range (command.Finish q) p is number = number
about_in_range (command.Halt q) p is number = number
about_in_range (command.Skip q) p is number = is
about_in_range (command.Kill q) p is number = is
about_in_range (command.Timeout q) p is number = is
about_in_range (command.Continue q) p is number = number
about_in_range (command.Bindings q) p is number = number
about_in_range (command.Frames q) p is number = number
about_in_range (command.Await q s) p is number = number
about_in_range _ p is number = is

scripts_are : (scripts : List (List Command)) (n : ℕ) → AreScripts scripts → AreCommands (slice_index_or scripts n [])
scripts_are [] n are = tt
scripts_are (cs ∷ rest) zero are = are.0
scripts_are (cs ∷ rest) (suc n) are = scripts_are rest n are.1

next_in_range : (plan : Plan) (f : Facts) (c : ℕ) (x : Call) → AreScripts plan.commands → Ranged f → next_call plan f c ≡ Some x → IsCall x
next_in_range plan f c x are r e =
    let at = next_stands plan f c x e in
    let command : IsCommand at.command = command_is (commands_of c plan.commands) (console_at f c).served at.command (scripts_are plan.commands _ are) at.stands in
    subst IsCall at.same (about_in_range at.command.call (process_of f c at.command.word) command.0 (word_in_range f c at.command.word r command.1))

-- what an entry makes of its console
status_process : (p q : ℕ) (s t : ProcStatus) → reply.Status p s ≡ reply.Status q t → p ≡ q
status_process p q s t e = cc

status_known : (plan : Plan) (f : Facts) (c : ℕ) (x : Call) (p : ℕ) (s : ProcStatus) → IsCall x → is_served x ≡ true → IsAnswer plan f c x (reply.Status p s) → IsNumber p
status_known plan f c x p s is known (inl a) = of_refusal (refused f.server c x) refl
  where
    of_await : (b : Bool) (q : ℕ) (t : ProcStatus) → IsNumber q → reply.Status p s ≡ (if b then reply.Status q t else reply.Quiet) → IsNumber p
    of_await true q t is e = subst IsNumber (sym (status_process p q s t e)) is
    of_await false q t is e = absurd (cc)

    awaited : (y : Call) → IsCall y → is_served y ≡ true → reply.Status p s ≡ answer f.server y → IsNumber p
    awaited (command.Await q t) is known e = of_await (has_status f.server q t) q t is e
    awaited (command.AwaitAny t) is known e = absurd (both_ways false refl known)
    awaited _ is known e = absurd (cc)

    of_refusal : (o : Option Refusal) → refused f.server c x ≡ o → IsNumber p
    of_refusal None none = awaited x is known (a.same ∙ (let here : reply_of f.server c x ≡ answer f.server x = rw none refl in here))
    of_refusal (Some why) some = absurd (let here : reply_of f.server c x ≡ reply.Refused why = rw some refl in let not_ : reply.Status p s ≡ reply.Refused why = a.same ∙ here in cc)
status_known plan f c x p s is known (inr q) = absurd (let not_ : reply.Status p s ≡ reply.Quiet = q.same in cc)

console_in_range : (plan : Plan) (f : Facts) (e : Entry) (k : Console) → AreScripts plan.commands → Ranged f → May plan f e → InRange k → InRange (console_with e k)
console_in_range plan f (entry.Start c p m n args) k are r may is = record {
  own = All-push IsNumber k.own p is.own (let number = may.rule.number in let few = start_few plan f c p m n args may in omega arith);
  last = is.last;
}
console_in_range plan f (entry.Served c x (reply.Status p s)) k are r may is = record {
  own = is.own;
  last = status_known plan f c x p s (next_in_range plan f c x are r (next_command plan f (entry.Served c x (reply.Status p s)) c x may refl).call) may.rule.known may.rule.answer;
}
console_in_range plan f (entry.Served c x reply.Ok) k are r may is = record { own = is.own; last = is.last }
console_in_range plan f (entry.Served c x (reply.Refused why)) k are r may is = record { own = is.own; last = is.last }
console_in_range plan f (entry.Served c x reply.Quiet) k are r may is = record { own = is.own; last = is.last }
console_in_range plan f (entry.Served c x (reply.Rows rs)) k are r may is = record { own = is.own; last = is.last }
console_in_range plan f _ k are r may is = record { own = is.own; last = is.last }

consoles_in_range : (plan : Plan) (f : Facts) (e : Entry) (c : ℕ) (o : Option (ℕ × Call)) → command_of e ≡ o → AreScripts plan.commands → Ranged f → May plan f e
    → InRange (numbered new_console (consoles_by f.consoles e o) c)
consoles_in_range plan f e c None is are r may = r.consoles c
consoles_in_range plan f e c (Some x) is are r may =
    let within = console_within _ x.0 r.eight.eight (next_command plan f e x.0 x.1 may is).console in
    subst InRange (sym (with_exact new_console f.consoles x.0 (console_with e (numbered new_console f.consoles x.0)) c within))
    (either (nat_eq x.0 c))
  where
    either : (b : Bool) → InRange (if b then console_with e (numbered new_console f.consoles x.0) else numbered new_console f.consoles c)
    either true = console_in_range plan f e (numbered new_console f.consoles x.0) are r may (r.consoles x.0)
    either false = r.consoles c

coming_in_range : (plan : Plan) (f : Facts) (e : Entry) → AreBounded plan.code → Ranged f → May plan f e → AreEntries (note plan f e).coming
coming_in_range plan f (entry.Ran p n c) bounded r may = ran_in_range plan f p n c bounded r.run may.rule
coming_in_range plan f (entry.Leave p) bounded r may = rest_to_come f.coming r.coming
coming_in_range plan f (entry.Enter p m n a) bounded r may = rest_to_come f.coming r.coming
coming_in_range plan f (entry.Stop p m l n by) bounded r may = rest_to_come f.coming r.coming
coming_in_range plan f _ bounded r may = r.coming

ranged_step : (plan : Plan) → AreBounded plan.code → AreScripts plan.commands → (f : Facts) (e : Entry) → Ranged f → May plan f e → Ranged (note plan f e)
ranged_step plan bounded are f e r may = record {
  coming = coming_in_range plan f e bounded r may;
  owed = λ p. each (λ (d x : Debuggee). OwesShort d.owed → OwesShort x.owed) (λ d o. o) (λ d o. o) plan f e p (λ same. owed_with plan f e (debuggee_at f p) r.coming may) (r.owed p);
  eight = eight_step plan f e r.eight may;
  consoles = λ c. consoles_in_range plan f e c (command_of e) refl are r may;
  names = (note_stays plan f e may).names r.names;
  run = note_runs plan f e bounded r.run may;
}

-- an entry that may stand is in range
entry_is : (plan : Plan) (f : Facts) (e : Entry) → AreScripts plan.commands → Ranged f → May plan f e → IsEntry e
entry_is plan f (entry.Start c p m n args) are r may = (may.rule.next.console, next_in_range plan f c (command.Start m n args) are r may.rule.next.call)
entry_is plan f (entry.Load c m v) are r may = absurd (no_load plan f c m v may)
entry_is plan f (entry.Skip c p) are r may = absurd may.rule
entry_is plan f (entry.Kill c p) are r may = absurd may.rule
entry_is plan f (entry.Expire c p) are r may = absurd may.rule
entry_is plan f (entry.Enter p m n a) are r may = first_to_come f.coming (entry.Enter p m n a) may.rule.0 may.rule.1 r.coming
entry_is plan f (entry.Stop p m l n by) are r may = first_to_come f.coming (entry.Stop p m l n by) may.rule.0 may.rule.1 r.coming
entry_is plan f (entry.Trigger p m l s a applied) are r may = subst OwesShort may.rule.owed (r.owed p)
entry_is plan f (entry.Served c x a) are r may =
    let told = next_command plan f (entry.Served c x a) c x may refl in
    (told.console, next_in_range plan f c x are r told.call, may.rule.served, is_reply plan f c x a may.rule.answer)
entry_is plan f _ are r may = tt

first_owes : (plan : Plan) (p : ℕ) → OwesShort (debuggee_at (at_first plan) p).owed
first_owes plan zero = tt
first_owes plan (suc n) = tt

new_range : InRange new_console
new_range = record { own = All-nil IsNumber; last = omega arith }

first_consoles : (plan : Plan) (c : ℕ) → InRange (console_at (at_first plan) c)
first_consoles plan c = replicated 8 c
  where
    at : (n m : ℕ) → InRange (slice_index_or (replicate n new_console) m new_console)
    at zero m = new_range
    at (suc n) zero = new_range
    at (suc n) (suc m) = at n m

    replicated : (n c : ℕ) → InRange (numbered new_console (replicate n new_console) c)
    replicated n zero = new_range
    replicated n (suc m) = at n m

first_ranged : (plan : Plan) → Ranged (at_first plan)
first_ranged plan = record {
  coming = tt;
  owed = first_owes plan;
  eight = record { eight = refl };
  consoles = first_consoles plan;
  names = refl;
  run = All-nil RunsBounded;
}

pub entry_in_range : (plan : Plan) (journal : List Entry) (e : Entry) → AreBounded plan.code → AreScripts plan.commands → Legal plan journal
    → May plan (facts plan journal) e → IsEntry e
entry_in_range plan journal e bounded are legal may =
    entry_is plan (facts plan journal) e are (kept_from plan Ranged (ranged_step plan bounded are) (at_first plan) journal (first_ranged plan) legal) may
