-- Consoles: what an entry changes of the console whose command it answers.

use Rattle.std.specs.Prelude.{ℕ, ◌+◌, List, [], ◌∷◌, ◌++◌, Option, None, Some}
use Rattle.edb_event.specs.declared.call.Call.{Call}
use Rattle.edb_event.specs.declared.call.Call.TheVariants as command
use Rattle.edb_event.specs.declared.reply.Reply.TheVariants as reply
use Rattle.edb_event.specs.declared.entry.Entry.{Entry}
use Rattle.edb_event.specs.declared.entry.Entry.TheVariants as entry
use Rattle.edb_model.specs.Procs.{numbered, with_numbered}
use Rattle.edb_rules.specs.Facts.{Console, new_console}

-- The command that an entry answers, behind the number of its console. What `start`, `load`, `skip`, `kill` and `timeout`
-- do is an entry of its own where they are accepted; every other answer is a Served.
abbrev pub command_of : Entry → Option (ℕ × Call)
command_of (entry.Start c p m n args) = Some (c, command.Start m n args)
command_of (entry.Load c m v) = Some (c, command.Load m v)
command_of (entry.Skip c p) = Some (c, command.Skip p)
command_of (entry.Kill c p) = Some (c, command.Kill p)
command_of (entry.Expire c p) = Some (c, command.Timeout p)
command_of (entry.Served c x r) = Some (c, x)
command_of _ = None

-- One command more was answered. A start adds its process to the console's own; an await that was answered by a status
-- is its last.
abbrev pub console_with : Entry → Console → Console
console_with (entry.Start c p m n args) k = record { served = k.served + 1; own = k.own ++ p ∷ []; last = k.last }
console_with (entry.Served c x (reply.Status p s)) k = record { served = k.served + 1; own = k.own; last = p }
console_with _ k = record k { served = k.served + 1 }

-- the console of the command that an entry answers changes; the others stay
abbrev pub consoles_by : List Console → Entry → Option (ℕ × Call) → List Console
consoles_by ks e None = ks
consoles_by ks e (Some x) = with_numbered ks x.0 (console_with e (numbered new_console ks x.0))

abbrev pub consoles_with : List Console → Entry → List Console
consoles_with ks e = consoles_by ks e (command_of e)
