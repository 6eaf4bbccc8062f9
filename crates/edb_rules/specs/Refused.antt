-- Why a command is refused, told from the modules and from the entries before it alone, for the commands that are served yet.
-- Of those `start` alone makes a process, `ib` a breakpoint, and `ia` attaches a console.

use Rattle.std.specs.Prelude.{ℕ, suc, Bool, true, false, if◌then◌else◌, ◌&&◌, nat_eq, nat_lt, List, [], ◌∷◌, Option, None, Some}
use Rattle.std.specs.List.{fold}
use Rattle.edb_lang.specs.Syntax.{ModuleTree}
use Rattle.edb_lang.specs.TermText.{same_name}
use Rattle.edb_lang.specs.declared.small.Action.TheVariants as action
use Rattle.edb_event.specs.declared.call.Call.{Call}
use Rattle.edb_event.specs.declared.call.Call.TheVariants as command
use Rattle.edb_event.specs.declared.call.ProcStatus.{ProcStatus}
use Rattle.edb_event.specs.declared.reply.Refusal.{Refusal}
use Rattle.edb_event.specs.declared.reply.Refusal.TheVariants as refusal
use Rattle.edb_event.specs.declared.reply.Reply.TheVariants as reply
use Rattle.edb_event.specs.declared.entry.Entry.{Entry}
use Rattle.edb_event.specs.declared.entry.Entry.TheVariants as entry
use Rattle.edb_rules.specs.Statuses.{status_by, is_inside, is_halted}

-- how many processes a journal starts
abbrev pub processes_with : ℕ → Entry → ℕ
processes_with n (entry.Start c p m f args) = suc n
processes_with n _ = n

abbrev pub processes_by : List Entry → ℕ
processes_by journal = fold processes_with 0 journal

-- A breakpoint is at a line of a module from an `ib` of it on that was done, until a trigger that was applied there deletes it.
abbrev pub is_place : List ℕ → ℕ → List ℕ → ℕ → Bool
is_place m l n k = same_name m n && nat_eq l k

abbrev pub break_with : List ℕ → ℕ → Bool → Entry → Bool
break_with m l b (entry.Served c (command.Ib n k) reply.Ok) = if is_place m l n k then true else b
break_with m l b (entry.Trigger p n k serial action.Delete true) = if is_place m l n k then false else b
break_with m l b _ = b

abbrev pub has_break_by : List ℕ → ℕ → List Entry → Bool
has_break_by m l journal = fold (break_with m l) false journal

-- the console that is attached to process p: that of the last `ia` of the process that was done
abbrev pub console_with : ℕ → Option ℕ → Entry → Option ℕ
console_with p o (entry.Served c (command.Ia q) reply.Ok) = if nat_eq q p then Some c else o
console_with p o _ = o

abbrev pub console_by : ℕ → List Entry → Option ℕ
console_by p journal = fold (console_with p) None journal

-- whether one of the modules has this name
abbrev pub has_module : List ℕ → List ModuleTree → Bool
has_module m [] = false
has_module m (x ∷ xs) = if same_name x.name m then true else has_module m xs

-- A REFUSAL, and what there is besides where it doesn't hold, by the status of a process and the console that is attached to it: no
-- process has the number; no meta process interprets it, or it has ended; this console isn't the one; some console is; it isn't stopped.
abbrev pub unless_made : Option ProcStatus → Option Refusal → Option Refusal
unless_made None rest = Some refusal.NoProcess
unless_made (Some s) rest = rest

abbrev pub unless_interpreted : Option ProcStatus → Option Refusal → Option Refusal
unless_interpreted s rest = if is_inside s then rest else Some refusal.NotInterpreted

abbrev pub unless_attached : ℕ → Option ℕ → Option Refusal → Option Refusal
unless_attached c None rest = Some refusal.NotAttached
unless_attached c (Some d) rest = if nat_eq d c then rest else Some refusal.NotAttached

abbrev pub unless_free : Option ℕ → Option Refusal → Option Refusal
unless_free None rest = rest
unless_free (Some d) rest = Some refusal.AlreadyAttached

abbrev pub unless_stopped : Option ProcStatus → Option Refusal → Option Refusal
unless_stopped s rest = if is_halted s then rest else Some refusal.NotStopped

-- WHY A COMMAND of console c is refused behind a journal, where it is: by the first of its refusals that holds. An await never is.
abbrev pub refused_by : List ModuleTree → List Entry → ℕ → Call → Option Refusal
refused_by code journal c (command.Start m n args) = if nat_lt (processes_by journal) 65_536 then None else Some refusal.SystemLimit
refused_by code journal c (command.Ii m) = if has_module m code then None else Some refusal.NoModule
refused_by code journal c (command.Ib m l) = if has_break_by m l journal then Some refusal.BreakExists else None
refused_by code journal c (command.Ia p) =
    unless_made (status_by p journal) (unless_interpreted (status_by p journal) (unless_free (console_by p journal) None))
refused_by code journal c (command.Continue p) = unless_made (status_by p journal) (unless_interpreted (status_by p journal) None)
refused_by code journal c (command.Bindings p) =
    unless_made (status_by p journal)
    (unless_interpreted (status_by p journal)
    (unless_attached c (console_by p journal)
    (unless_stopped (status_by p journal) None)))
refused_by code journal c _ = None

-- the refusal that an entry is answered by
abbrev pub refusal_in : Entry → Option Refusal
refusal_in (entry.Served c x (reply.Refused r)) = Some r
refusal_in _ = None
