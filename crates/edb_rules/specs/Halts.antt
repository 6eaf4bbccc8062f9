-- Whether a process is stopped, told from a journal's entries alone.

use Rattle.std.specs.Prelude.{ℕ, Bool, true, false, if◌then◌else◌, ◌&&◌, nat_eq, List, Some}
use Rattle.std.specs.List.{fold}
use Rattle.edb_event.specs.declared.call.Call.{Call}
use Rattle.edb_event.specs.declared.call.Call.TheVariants as command
use Rattle.edb_event.specs.declared.entry.Entry.{Entry}
use Rattle.edb_event.specs.declared.entry.Entry.TheVariants as entry
use Rattle.edb_rules.specs.Replies.{is_accepted}
use Rattle.edb_rules.specs.Inside.{is_end}

-- the process that a command lets go on; 0 if it lets none
abbrev pub resumed_process : Call → ℕ
resumed_process (command.Step p) = p
resumed_process (command.Next p) = p
resumed_process (command.Finish p) = p
resumed_process (command.Continue p) = p
resumed_process _ = 0

-- It is from a Stop of the process on, until a command that lets it go on is accepted, its expression is left out, or it
-- ends: by itself, by a signal, or by a `kill`.
abbrev pub stopped_with : ℕ → Bool → Entry → Bool
stopped_with p b (entry.Stop q m l n by) = if nat_eq q p then true else b
stopped_with p b (entry.Served c x r) = if is_accepted r && nat_eq (resumed_process x) p then false else b
stopped_with p b (entry.Skip c q) = if nat_eq q p then false else b
stopped_with p b (entry.Did q k v bytes) = if nat_eq q p && is_end k then false else b
stopped_with p b (entry.Signal q (Some r)) = if nat_eq q p then false else b
stopped_with p b (entry.Kill c q) = if nat_eq q p then false else b
stopped_with p b _ = b

abbrev pub is_stopped_by : ℕ → List Entry → Bool
is_stopped_by p journal = fold (stopped_with p) false journal
