-- The status of a process, told from a journal's entries alone: it is what the last entry says that speaks of the process.

use Rattle.std.specs.Prelude.{ℕ, Bool, true, false, if◌then◌else◌, ◌&&◌, nat_eq, List, Option, None, Some}
use Rattle.std.specs.List.{fold}
use Rattle.edb_lang.specs.declared.act.ActKind.{ActKind}
use Rattle.edb_lang.specs.declared.act.ActKind.TheVariants as kind
use Rattle.edb_event.specs.declared.call.Call.{Call}
use Rattle.edb_event.specs.declared.call.Call.TheVariants as command
use Rattle.edb_event.specs.declared.call.ProcStatus.{ProcStatus}
use Rattle.edb_event.specs.declared.call.ProcStatus.TheVariants as status
use Rattle.edb_event.specs.declared.reply.Reply.TheVariants as reply
use Rattle.edb_event.specs.declared.entry.Entry.{Entry}
use Rattle.edb_event.specs.declared.entry.Entry.TheVariants as entry
use Rattle.edb_rules.specs.Inside.{is_end}

-- whether a command lets process p go on
abbrev pub lets_go : ℕ → Call → Bool
lets_go p (command.Step q) = nat_eq q p
lets_go p (command.Next q) = nat_eq q p
lets_go p (command.Finish q) = nat_eq q p
lets_go p (command.Continue q) = nat_eq q p
lets_go p _ = false

-- a process whose meta asks for an act goes on, but for a message it waits
abbrev pub going_on : ActKind → ProcStatus
going_on kind.Receive = status.Waiting
going_on _ = status.Running

-- WHAT AN ENTRY SAYS OF PROCESS p. It is idle from its start on; it runs once it comes to interpreted code, and is idle once it
-- left it; it breaks at a stop, and runs once a command that lets it go on was done or its expression was left out; and it
-- exits as it ends: by itself, by a signal, or by a `kill`. An entry that says nothing of it leaves its status.
abbrev pub status_with : ℕ → Option ProcStatus → Entry → Option ProcStatus
status_with p s (entry.Start c q m n args) = if nat_eq q p then Some status.Idle else s
status_with p s (entry.Enter q m n a) = if nat_eq q p then Some status.Running else s
status_with p s (entry.Leave q) = if nat_eq q p then Some status.Idle else s
status_with p s (entry.Stop q m l n by) = if nat_eq q p then Some status.Break else s
status_with p s (entry.Served c x reply.Ok) = if lets_go p x then Some status.Running else s
status_with p s (entry.Skip c q) = if nat_eq q p then Some status.Running else s
status_with p s (entry.Ask q k) = if nat_eq q p then Some (going_on k) else s
status_with p s (entry.Took q) = if nat_eq q p then Some status.Running else s
status_with p s (entry.Did q k v bytes) = if nat_eq q p && is_end k then Some status.Exit else s
status_with p s (entry.Signal q (Some r)) = if nat_eq q p then Some status.Exit else s
status_with p s (entry.Kill c q) = if nat_eq q p then Some status.Exit else s
status_with p s _ = s

-- the status after a journal; none if the journal starts no such process
abbrev pub status_by : ℕ → List Entry → Option ProcStatus
status_by p journal = fold (status_with p) None journal

-- whether a process of a status is interpreted, and whether it is stopped
abbrev pub is_inside : Option ProcStatus → Bool
is_inside (Some status.Running) = true
is_inside (Some status.Waiting) = true
is_inside (Some status.Break) = true
is_inside _ = false

abbrev pub is_halted : Option ProcStatus → Bool
is_halted (Some status.Break) = true
is_halted _ = false
