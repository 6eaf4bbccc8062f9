-- What the interpreter server has seen of a process.

use Rattle.std.specs.Prelude.{ℕ, Bool, true, false, if◌then◌else◌, List, Option, None, is_some}
use Rattle.edb_lang.specs.Pairs.{Pairs}
use Rattle.edb_event.specs.declared.call.ProcStatus.{ProcStatus}
use Rattle.edb_event.specs.declared.call.ProcStatus.TheVariants as status

-- A frame: the level of a Body, the module, name and arity of its call, the line of the first expression of its innermost
-- sequence, and its bindings.
pub record Frame : Type 0 where
  pub level : ℕ
  pub home : List ℕ
  pub name : List ℕ
  pub arity : ℕ
  pub line : ℕ
  pub bindings : Pairs

-- a stop: the module and line of the expression that is next, the level of the innermost Body, and the frames, innermost
-- first
pub record SeenStop : Type 0 where
  pub home : List ℕ
  pub line : ℕ
  pub level : ℕ
  pub frames : List Frame

-- a function, by its module, name and arity
pub record SeenCall : Type 0 where
  pub home : List ℕ
  pub name : List ℕ
  pub arity : ℕ

-- The function in which it came to interpreted code for the first time, until it is cleared; whether a meta process
-- interprets it, and whether that waits for a message; where it is stopped; and the text of its reason, once it has ended.
pub record Seen : Type 0 where
  pub first : Option SeenCall
  pub is_interpreted : Bool
  pub is_waiting : Bool
  pub stop : Option SeenStop
  pub ended : Option (List ℕ)

-- of a new process
abbrev pub new_seen : Seen
new_seen = record { first = None; is_interpreted = false; is_waiting = false; stop = None; ended = None }

-- THE STATUS of a process: `exit` where it has ended; else `break` where it is stopped; else `idle` where no meta process
-- interprets it; else `waiting` where that waits for a message; and else `running`.
abbrev pub status_of : Seen → ProcStatus
status_of x =
    if is_some x.ended then status.Exit
    else if is_some x.stop then status.Break
    else if x.is_interpreted then (if x.is_waiting then status.Waiting else status.Running)
    else status.Idle

abbrev pub same_status : ProcStatus → ProcStatus → Bool
same_status status.Idle status.Idle = true
same_status status.Running status.Running = true
same_status status.Waiting status.Waiting = true
same_status status.Break status.Break = true
same_status status.Exit status.Exit = true
same_status _ _ = false
