-- Legal journals: each entry stands where the rules let it stand.

use Rattle.std.specs.Prelude.{◌≡◌, ◌⊎◌, ℕ, ◌+◌, ◌-◌, ◌<◌, ◌≤◌, min, Bool, true, false, List, [], ◌∷◌, length, None, Some}
use Rattle.edb_lang.specs.declared.act.ActKind.{ActKind}
use Rattle.edb_lang.specs.declared.small.Action.{Action}
use Rattle.edb_lang.specs.Terms.{Datum}
use Rattle.edb_lang.specs.TermText.{term_text}
use Rattle.edb_breaks.specs.Table.{has_row}
use Rattle.edb_model.specs.Running.{Run}
use Rattle.edb_model.specs.Plain.{Plain, running_at}
use Rattle.edb_model.specs.Labels.{steps}
use Rattle.edb_event.specs.declared.call.Call.{Call}
use Rattle.edb_event.specs.declared.call.Call.TheVariants as command
use Rattle.edb_event.specs.declared.reply.Reply.{Reply}
use Rattle.edb_event.specs.declared.reply.Reply.TheVariants as reply
use Rattle.edb_event.specs.declared.entry.Entry.{Entry}
use Rattle.edb_event.specs.declared.entry.Entry.TheVariants as entry
use Rattle.edb_event.specs.Ranges.{IsConsole, MayAnswer}
use Rattle.edb_rules.specs.Erasure.{labels_of}
use Rattle.edb_rules.specs.Plans.{Plan}
use Rattle.edb_rules.specs.Facts.{Facts, at_first, debuggee_at}
use Rattle.edb_rules.specs.Slices.{SliceEnd, IsSlice}
use Rattle.edb_rules.specs.Replies.{next_call, is_enabled, is_served}
use Rattle.edb_rules.specs.Refusals.{refused}
use Rattle.edb_rules.specs.Answers.{reply_of}
use Rattle.edb_rules.specs.Turns.{Act, leases, does, turn_of, IsFirst}
use Rattle.edb_rules.specs.Ranks.{MayBegin, AtCommand, AtTurn, AtClock, AtQuiet, NoLease, IsNext, next_deadline}
use Rattle.edb_rules.specs.Notes.{note}

-- a console's next command, a start that isn't refused, makes the next process
pub record MayStart (plan : Plan) (f : Facts) (c p : ℕ) (m n : List ℕ) (args : Datum) : Type 0 where
  pub at : AtCommand plan f
  pub next : IsNext plan f c (command.Start m n args)
  pub number : p ≡ length f.plain.running + 1
  pub allowed : refused f.server c (command.Start m n args) ≡ None

-- a console's next command, which has an entry of its own where it is accepted, is accepted
pub record MayDo (plan : Plan) (f : Facts) (c : ℕ) (x : Call) : Type 0 where
  pub at : AtCommand plan f
  pub next : IsNext plan f c x
  pub known : is_served x ≡ true
  pub allowed : refused f.server c x ≡ None

-- a console's next command is enabled, and is answered by its reply
pub record IsAnswered (plan : Plan) (f : Facts) (c : ℕ) (x : Call) (r : Reply) : Type 0 where
  pub at : AtCommand plan f
  pub next : IsNext plan f c x
  pub enabled : is_enabled f x ≡ true
  pub same : r ≡ reply_of f.server c x

-- Nothing can come but what awaits: of the consoles that have a command left, the least one's is answered `quiet`.
pub record IsQuiet (plan : Plan) (f : Facts) (c : ℕ) (x : Call) (r : Reply) : Type 0 where
  pub at : AtQuiet plan f
  pub console : IsConsole c
  pub call : next_call plan f c ≡ Some x
  pub first : (d : ℕ) → 1 ≤ d → d < c → next_call plan f d ≡ None
  pub same : r ≡ reply.Quiet

abbrev pub IsAnswer : Plan → Facts → ℕ → Call → Reply → Type 0
IsAnswer plan f c x r = IsAnswered plan f c x r ⊎ IsQuiet plan f c x r

-- a command is answered; one that has an entry of its own where it is accepted was refused
pub record MayServe (plan : Plan) (f : Facts) (c : ℕ) (x : Call) (r : Reply) : Type 0 where
  pub answer : IsAnswer plan f c x r
  pub known : is_served x ≡ true
  pub served : MayAnswer x r

-- A lease that is out is given again: a load came since, or the process was never leased again without one.
pub record IsLeasedAgain (f : Facts) (p : ℕ) : Type 0 where
  pub running : Run
  pub lives : running_at f.plain p ≡ Some running
  pub out : (debuggee_at f p).is_out ≡ true
  pub allowed : ((debuggee_at f p).was_crossed ≡ true) ⊎ ((debuggee_at f p).was_leased_again ≡ false)

-- a lease stands where a pure move is next; its budget is the lesser of a slice and of what is left of the weight
-- after it
pub record MayLease (plan : Plan) (f : Facts) (p budget : ℕ) : Type 0 where
  pub at : AtTurn plan f
  pub first : IsFirst f p
  pub turn : (turn_of f p ≡ Some leases) ⊎ IsLeasedAgain f p
  pub allowed : budget ≡ min plan.slice_moves (plan.weight_limit - (f.weight + 1))

-- What was leased makes the moves of one slice, by what it took in; the current versions are those that it took in. The
-- entries of the slice's end come next.
pub record MayRun (plan : Plan) (f : Facts) (p moves conditions : ℕ) : Type 0 where
  pub begin : MayBegin plan f
  pub out : (debuggee_at f p).is_out ≡ true
  pub running : Run
  pub lives : running_at f.plain p ≡ Some running
  pub versions : (debuggee_at f p).handout.versions ≡ f.plain.versions
  pub end : SliceEnd
  pub slice : IsSlice plan.code (debuggee_at f p).handout p running moves conditions end

-- an act stands where it is next, with the text of its answer and what it prints
pub record MayAct (plan : Plan) (f : Facts) (p : ℕ) (k : ActKind) (value bytes : List ℕ) : Type 0 where
  pub at : AtTurn plan f
  pub first : IsFirst f p
  pub act : Act
  pub turn : turn_of f p ≡ Some (does act)
  pub kind : k ≡ act.kind
  pub answer : value ≡ term_text act.answer
  pub prints : bytes ≡ act.prints

-- the entries of a slice's end stand in their order, directly behind its Ran
abbrev pub MayEnd : Facts → Entry → Type 0
MayEnd f e = (rest : List Entry) × (f.coming ≡ e ∷ rest)

-- The trigger of the least process that owes one stands before everything else; it is applied where the table still has
-- the row.
pub record MayTrigger (plan : Plan) (f : Facts) (p : ℕ) (m : List ℕ) (l serial : ℕ) (a : Action) (applied : Bool) : Type 0 where
  pub begin : MayBegin plan f
  pub owed : (debuggee_at f p).owed ≡ Some (record { home = m; line = l; serial = serial; action = a })
  pub first : (q : ℕ) → q < p → (debuggee_at f q).owed ≡ None
  pub done : applied ≡ has_row serial m l f.server.table

-- the clock goes on to the least deadline above it
pub record MayAdvance (plan : Plan) (f : Facts) (t : ℕ) : Type 0 where
  pub at : AtClock plan f
  pub least : next_deadline f.plain.procs ≡ Some t

-- THE RULE OF EACH KIND OF ENTRY. Signals, and the steps of pairs, don't come yet, nor does what a console does to a run by
-- `skip`, `kill` and `timeout`. No command makes a load, and no act sets a deadline, yet.
abbrev pub Rule : Plan → Facts → Entry → Type 0
Rule plan f (entry.Start c p m n args) = MayStart plan f c p m n args
Rule plan f (entry.Load c m v) = MayDo plan f c (command.Load m v)
Rule plan f (entry.Skip c p) = ⊥
Rule plan f (entry.Kill c p) = ⊥
Rule plan f (entry.Expire c p) = ⊥
Rule plan f (entry.Lease p b) = MayLease plan f p b
Rule plan f (entry.Ran p n c) = MayRun plan f p n c
Rule plan f (entry.Ask p k) = ⊥
Rule plan f (entry.Did p k v bytes) = MayAct plan f p k v bytes
Rule plan f (entry.Took p) = ⊥
Rule plan f (entry.Forward p) = ⊥
Rule plan f (entry.Leave p) = MayEnd f (entry.Leave p)
Rule plan f (entry.Enter p m n a) = MayEnd f (entry.Enter p m n a)
Rule plan f (entry.Signal p r) = ⊥
Rule plan f (entry.Advance t) = MayAdvance plan f t
Rule plan f (entry.Stop p m l n by) = MayEnd f (entry.Stop p m l n by)
Rule plan f (entry.Trigger p m l s a applied) = MayTrigger plan f p m l s a applied
Rule plan f (entry.Served c x r) = MayServe plan f c x r

-- An entry stands where its rule lets it and the steps that it stands for are enabled.
pub record May (plan : Plan) (f : Facts) (e : Entry) : Type 0 where
  pub rule : Rule plan f e
  pub plain : Plain
  pub enabled : steps plan.code f.plain (labels_of e) ≡ Some plain

-- a journal of which each entry is judged by the facts before it
abbrev pub JudgedFrom : (Plan → Facts → Entry → Type 0) → Plan → Facts → List Entry → Type 0
JudgedFrom judge plan f [] = Unit {0}
JudgedFrom judge plan f (e ∷ es) = judge plan f e × JudgedFrom judge plan (note plan f e) es

abbrev pub LegalFrom : Plan → Facts → List Entry → Type 0
LegalFrom = JudgedFrom May

-- a legal journal, or the beginning of one
abbrev pub Legal : Plan → List Entry → Type 0
Legal plan journal = LegalFrom plan (at_first plan) journal

-- With one hand a lease is directly followed by its slice: nothing but slices and what ends them stands while one is out.
abbrev pub MayAlone : Plan → Facts → Entry → Type 0
MayAlone plan f (entry.Ran p n c) = Unit {0}
MayAlone plan f (entry.Enter p m n a) = Unit {0}
MayAlone plan f (entry.Leave p) = Unit {0}
MayAlone plan f (entry.Stop p m l n by) = Unit {0}
MayAlone plan f _ = NoLease f

abbrev pub IsOneHanded : Plan → List Entry → Type 0
IsOneHanded plan journal = JudgedFrom MayAlone plan (at_first plan) journal

-- The world is over: the weight is reached and no end of a slice is still to come; or a console said `quit`; or no command
-- is left and nothing can come.
pub record IsLimit (plan : Plan) (f : Facts) : Type 0 where
  pub full : plan.weight_limit ≤ f.weight
  pub whole : f.coming ≡ []
  pub no_quit : f.has_quit ≡ false

pub record HasQuit (f : Facts) : Type 0 where
  pub quit : f.has_quit ≡ true
  pub whole : f.coming ≡ []

pub record IsThrough (plan : Plan) (f : Facts) : Type 0 where
  pub at : AtQuiet plan f
  pub through : (c : ℕ) → IsConsole c → next_call plan f c ≡ None

abbrev pub IsDone : Plan → Facts → Type 0
IsDone plan f = HasQuit f ⊎ IsThrough plan f

abbrev pub IsOver : Plan → Facts → Type 0
IsOver plan f = IsDone plan f ⊎ IsLimit plan f
