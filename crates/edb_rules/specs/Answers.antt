-- What a console is answered, as one thread that serves all commands would.

use Rattle.std.specs.Prelude.{ℕ, suc, Bool, true, false, if◌then◌else◌, is_some, List, [], ◌∷◌, Option, None, Some}
use Rattle.std.specs.Option.{option_map_or}
use Rattle.edb_lang.specs.Pairs.{Pairs}
use Rattle.edb_event.specs.declared.call.Call.{Call}
use Rattle.edb_event.specs.declared.call.Call.TheVariants as command
use Rattle.edb_event.specs.declared.call.ProcStatus.{ProcStatus}
use Rattle.edb_event.specs.declared.reply.Refusal.{Refusal}
use Rattle.edb_event.specs.declared.reply.Reply.{Reply}
use Rattle.edb_event.specs.declared.reply.Reply.TheVariants as reply
use Rattle.edb_rules.specs.Seen.{Frame, SeenStop, Seen, status_of, same_status}
use Rattle.edb_rules.specs.Server.{Server, seen_at, stop_at}
use Rattle.edb_rules.specs.Refusals.{refused}
use Rattle.edb_rules.specs.ServerRows.{binding_rows, module_rows, break_rows, module_break_rows, snapshot_rows, frame_rows}

-- whether a process that was made has this status
abbrev pub has_status : Server → ℕ → ProcStatus → Bool
has_status s p status = option_map_or (λ (x : Seen). same_status (status_of x) status) (seen_at s p) false

-- the least of the processes, numbered from p on, that has this status
abbrev pub first_from : ProcStatus → ℕ → List (Option Seen) → Option ℕ
first_from status p [] = None
first_from status p (x ∷ xs) =
    if option_map_or (λ (y : Seen). same_status (status_of y) status) x false then Some p else first_from status (suc p) xs

abbrev pub first_with : Server → ProcStatus → Option ℕ
first_with s status = first_from status 1 s.seen

-- An await is enabled where its process was made and has the status, or where some process has it; every other command is.
abbrev pub enables : Server → Call → Bool
enables s (command.Await p status) = has_status s p status
enables s (command.AwaitAny status) = is_some (first_with s status)
enables s _ = true

-- the frames and the bindings of a process that is stopped
abbrev pub frames_of : Server → ℕ → List Frame
frames_of s p = option_map_or (λ (stop : SeenStop). stop.frames) (stop_at s p) []

abbrev pub innermost_bindings : List Frame → Pairs
innermost_bindings [] = []
innermost_bindings (f ∷ fs) = f.bindings

-- The answer of a command that isn't refused: the rows of one that has rows; the process and the status of an await that is
-- enabled, and `quiet` for one that isn't; `ok` for every other.
abbrev pub answer : Server → Call → Reply
answer s command.Il = reply.Rows (module_rows s.interpreted)
answer s command.Ipb = reply.Rows (break_rows s.table)
answer s (command.IpbModule m) = reply.Rows (module_break_rows m s.table)
answer s command.Ip = reply.Rows (snapshot_rows s.seen)
answer s (command.Bindings p) = reply.Rows (binding_rows (innermost_bindings (frames_of s p)))
answer s (command.Frames p) = reply.Rows (frame_rows s.trace (frames_of s p))
answer s (command.Await p status) = if has_status s p status then reply.Status p status else reply.Quiet
answer s (command.AwaitAny status) = option_map_or (λ (p : ℕ). reply.Status p status) (first_with s status) reply.Quiet
answer s _ = reply.Ok

-- THE REPLY to a command of console c
abbrev pub reply_of : Server → ℕ → Call → Reply
reply_of s c x = by (refused s c x)
  where
    by : Option Refusal → Reply
    by (Some why) = reply.Refused why
    by None = answer s x
