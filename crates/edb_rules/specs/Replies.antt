-- The commands of consoles: which is next, and which are answered.

use Rattle.std.specs.Prelude.{ℕ, zero, suc, Bool, true, false, if◌then◌else◌, List, [], ◌∷◌, slice_get, slice_index_or, Option}
use Rattle.std.specs.Option.{option_map}
use Rattle.edb_lang.specs.TermText.{same_name}
use Rattle.edb_model.specs.declared.tables.NameRow.{NameRow}
use Rattle.edb_event.specs.declared.call.Call.{Call}
use Rattle.edb_event.specs.declared.call.Call.TheVariants as command
use Rattle.edb_event.specs.declared.call.Word.{Word}
use Rattle.edb_event.specs.declared.call.Word.TheVariants as word
use Rattle.edb_event.specs.declared.call.Command.{Command}
use Rattle.edb_event.specs.declared.reply.Reply.{Reply}
use Rattle.edb_event.specs.declared.reply.Reply.TheVariants as reply
use Rattle.edb_event.specs.Books.{commands_of}
use Rattle.edb_rules.specs.Plans.{Plan}
use Rattle.edb_rules.specs.Facts.{Facts, console_at}
use Rattle.edb_rules.specs.Answers.{enables}

-- the process of a registered name
abbrev pub named_process : List ℕ → List NameRow → ℕ
named_process x [] = 0
named_process x (r ∷ rs) = if same_name r.name x then r.pid else named_process x rs

-- The process that a word of console c names: a number itself, also where no such process was made; the K-th that the
-- console's own starts made; a registered name's; that of its last await that had a status. Any other word names process 0.
abbrev pub process_of : Facts → ℕ → Word → ℕ
process_of f c word.Absent = 0
process_of f c (word.Number n) = n
process_of f c (word.Own zero) = 0
process_of f c (word.Own (suc k)) = slice_index_or (console_at f c).own k 0
process_of f c (word.Named x) = named_process x f.plain.procs.names
process_of f c word.Last = (console_at f c).last

-- a command about this process
abbrev pub about : Call → ℕ → Call
about (command.Ia q) p = command.Ia p
about (command.Detach q) p = command.Detach p
about (command.Step q) p = command.Step p
about (command.Next q) p = command.Next p
about (command.Finish q) p = command.Finish p
about (command.Halt q) p = command.Halt p
about (command.Continue q) p = command.Continue p
about (command.Skip q) p = command.Skip p
about (command.Kill q) p = command.Kill p
about (command.Timeout q) p = command.Timeout p
about (command.Bindings q) p = command.Bindings p
about (command.Frames q) p = command.Frames p
about (command.Await q s) p = command.Await p s
about c p = c

-- a command of console c, with its word found to be a process
abbrev pub resolved : Facts → ℕ → Command → Call
resolved f c x = about x.call (process_of f c x.word)

-- the next command of console c, so found; none once all were answered
abbrev pub next_call : Plan → Facts → ℕ → Option Call
next_call plan f c = option_map (resolved f c) (slice_get (commands_of c plan.commands) (console_at f c).served)

-- whether the server enables it
abbrev pub is_enabled : Facts → Call → Bool
is_enabled f x = enables f.server x

-- The commands that are served yet: no rule admits another, and a script that has one is refused.
abbrev pub is_served : Call → Bool
is_served (command.Start m n args) = true
is_served (command.Ii m) = true
is_served (command.Ib m l) = true
is_served (command.Ia p) = true
is_served (command.Continue p) = true
is_served (command.Bindings p) = true
is_served (command.Await p s) = true
is_served _ = false

-- a reply that changes something: what was refused, or answered `quiet`, changes nothing
abbrev pub is_accepted : Reply → Bool
is_accepted (reply.Refused r) = false
is_accepted reply.Quiet = false
is_accepted _ = true
