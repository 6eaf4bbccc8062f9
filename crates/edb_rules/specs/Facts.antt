-- The facts that the rules of a journal look at.

use Rattle.std.specs.Prelude.{ℕ, Bool, false, List, [], Option, None, replicate}
use Rattle.edb_lang.specs.declared.act.ActKind.{ActKind}
use Rattle.edb_lang.specs.declared.small.Action.{Action}
use Rattle.edb_lang.specs.declared.small.BreakRow.{BreakRow}
use Rattle.edb_frames.specs.declared.mode.Mode.{Mode}
use Rattle.edb_frames.specs.declared.mode.Mode.TheVariants.{Run as RunOn}
use Rattle.edb_model.specs.Plain.{Plain, opening}
use Rattle.edb_model.specs.Procs.{numbered}
use Rattle.edb_event.specs.declared.call.AutoFlag.{AutoFlag}
use Rattle.edb_event.specs.declared.entry.Entry.{Entry}
use Rattle.edb_rules.specs.Server.{Server, first_server}
use Rattle.edb_rules.specs.Plans.{Plan}

-- A console: how many of its commands were answered; the processes that its own starts made, in order; and the process
-- of its last await that was answered by a status, 0 if none was.
pub record Console : Type 0 where
  pub served : ℕ
  pub own : List ℕ
  pub last : ℕ

abbrev pub new_console : Console
new_console = record { served = 0; own = []; last = 0 }

-- WHAT A PROCESS TAKES IN with a lease: the budget of moves; the current versions; the rows of the table, the interpreted
-- modules and the flags of the server; how it goes on; whether a meta process interprets it, and whether one ever did; and
-- whether it was resumed and made no move since.
pub record Handout : Type 0 where
  pub budget : ℕ
  pub versions : List (List ℕ × ℕ)
  pub rows : List BreakRow
  pub modules : List (List ℕ)
  pub flags : List AutoFlag
  pub mode : Mode
  pub is_interpreted : Bool
  pub was_entered : Bool
  pub is_resumed : Bool

-- before a first lease
abbrev pub no_handout : Handout
no_handout =
    record {
      budget = 0;
      versions = [];
      rows = [];
      modules = [];
      flags = [];
      mode = RunOn;
      is_interpreted = false;
      was_entered = false;
      is_resumed = false;
    }

-- what becomes of the breakpoint at which a process stopped
pub record OwedTrigger : Type 0 where
  pub home : List ℕ
  pub line : ℕ
  pub serial : ℕ
  pub action : Action

-- WHAT THE DEBUGGER KNOWS OF A PROCESS: whether a meta process interprets it, and whether one ever did; whether it is
-- stopped, and whether it stopped and made no move since; what it took in with its last lease, and whether that is out;
-- whether a load came since that lease, and whether it was ever leased again without one; the act that its meta asks for,
-- and whether that is done and its answer waits; how many messages of its mailbox the meta has in its queue (no act takes one
-- out of it yet); how it goes on,
-- and the order that it was given since its last lease; and the trigger that its stop owes.
pub record Debuggee : Type 0 where
  pub is_interpreted : Bool
  pub was_entered : Bool
  pub is_stopped : Bool
  pub is_resumed : Bool
  pub handout : Handout
  pub is_out : Bool
  pub was_crossed : Bool
  pub was_leased_again : Bool
  pub asked : Option ActKind
  pub is_done : Bool
  pub queue : ℕ
  pub mode : Mode
  pub order : Option Mode
  pub owed : Option OwedTrigger

-- of a new process, and of a number that no process has
abbrev pub unseen : Debuggee
unseen =
    record {
      is_interpreted = false;
      was_entered = false;
      is_stopped = false;
      is_resumed = false;
      handout = no_handout;
      is_out = false;
      was_crossed = false;
      was_leased_again = false;
      asked = None;
      is_done = false;
      queue = 0;
      mode = RunOn;
      order = None;
      owed = None;
    }

-- The plain state; the server; what the debugger knows of each process, by number from 1; the eight consoles, by number
-- from 1; the process that had the last turn; the entries that have to stand next, since they end a slice; the weight so
-- far; and whether a console said `quit`.
pub record Facts : Type 0 where
  pub plain : Plain
  pub server : Server
  pub debuggees : List Debuggee
  pub consoles : List Console
  pub turn : ℕ
  pub coming : List Entry
  pub weight : ℕ
  pub has_quit : Bool

-- before the first entry
abbrev pub at_first : Plan → Facts
at_first plan =
    record {
      plain = opening plan.code;
      server = first_server plan.code;
      debuggees = [];
      consoles = replicate 8 new_console;
      turn = 0;
      coming = [];
      weight = 0;
      has_quit = false;
    }

-- what is known of process p
abbrev pub debuggee_at : Facts → ℕ → Debuggee
debuggee_at f p = numbered unseen f.debuggees p

-- the console of a number
abbrev pub console_at : Facts → ℕ → Console
console_at f c = numbered new_console f.consoles c
