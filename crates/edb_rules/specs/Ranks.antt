-- Ranks: what may stand next. An entry of a rank stands only where nothing of a lower rank can: a trigger that is owed, a
-- command that is enabled, a signal in flight, a process's turn, the clock, and an await that nothing can meet.

use Rattle.std.specs.Prelude.{◌≡◌, ℕ, ◌<◌, ◌≤◌, false, if◌then◌else◌, nat_lt, min, List, [], ◌∷◌, Option, None, Some, IfSome}
use Rattle.edb_event.specs.declared.call.Call.{Call}
use Rattle.edb_event.specs.Ranges.{IsConsole}
use Rattle.edb_model.specs.Procs.{Procs, Member}
use Rattle.edb_rules.specs.Plans.{Plan}
use Rattle.edb_rules.specs.Facts.{Facts, debuggee_at}
use Rattle.edb_rules.specs.Replies.{next_call, is_enabled}
use Rattle.edb_rules.specs.Turns.{turn_of}

-- A call of the world may begin: the weight isn't reached, no end of a slice is still to come, and no console said `quit`.
pub record MayBegin (plan : Plan) (f : Facts) : Type 0 where
  pub light : f.weight < plan.weight_limit
  pub whole : f.coming ≡ []
  pub no_quit : f.has_quit ≡ false

-- a command may be answered: no trigger is owed
pub record AtCommand (plan : Plan) (f : Facts) : Type 0 where
  pub begin : MayBegin plan f
  pub no_trigger : (p : ℕ) → (debuggee_at f p).owed ≡ None

-- a console has no command left, or its next one, an await, isn't enabled
abbrev pub IsWaiting : Plan → Facts → ℕ → Type 0
IsWaiting plan f c = IfSome (next_call plan f c) (λ x. is_enabled f x ≡ false)

-- a signal may be delivered: besides, no console has a command that is enabled
pub record AtSignal (plan : Plan) (f : Facts) : Type 0 where
  pub at : AtCommand plan f
  pub no_command : (c : ℕ) → IsConsole c → IsWaiting plan f c

-- a process may have its turn: besides, no signal is in flight
pub record AtTurn (plan : Plan) (f : Facts) : Type 0 where
  pub at : AtSignal plan f
  pub no_signal : f.plain.procs.bonds.signals ≡ []

-- no lease is out
abbrev pub NoLease : Facts → Type 0
NoLease f = (p : ℕ) → (debuggee_at f p).is_out ≡ false

-- the clock may go on: besides, no process is ready for a turn, and no lease is out
pub record AtClock (plan : Plan) (f : Facts) : Type 0 where
  pub at : AtTurn plan f
  pub still : (p : ℕ) → turn_of f p ≡ None
  pub no_lease : NoLease f

-- the least deadline above the clock
abbrev pub earlier : ℕ → Option ℕ → Option ℕ
earlier t None = Some t
earlier t (Some u) = Some (min t u)

abbrev pub deadline_above : ℕ → List Member → Option ℕ
deadline_above clock [] = None
deadline_above clock (m ∷ ms) = by m.deadline (deadline_above clock ms)
  where
    by : Option ℕ → Option ℕ → Option ℕ
    by None rest = rest
    by (Some t) rest = if nat_lt clock t then earlier t rest else rest

abbrev pub next_deadline : Procs → Option ℕ
next_deadline procs = deadline_above procs.clock procs.members

-- nothing can come but awaits that nothing can meet: besides, no deadline is above the clock
pub record AtQuiet (plan : Plan) (f : Facts) : Type 0 where
  pub at : AtClock plan f
  pub no_deadline : next_deadline f.plain.procs ≡ None

-- This is the next command of console c, and no console of a lesser number has one that is enabled.
pub record IsNext (plan : Plan) (f : Facts) (c : ℕ) (x : Call) : Type 0 where
  pub console : IsConsole c
  pub call : next_call plan f c ≡ Some x
  pub first : (d : ℕ) → 1 ≤ d → d < c → IsWaiting plan f d
