-- The commands of a console in a journal.

use Rattle.std.specs.Prelude.{◌≡◌, ℕ, Bool, false, nat_eq, List, Option, None, Some, slice_get}
use Rattle.std.specs.List.{count_by}
use Rattle.edb_event.specs.declared.call.Command.{Command}
use Rattle.edb_event.specs.declared.call.Call.{Call}
use Rattle.edb_event.specs.declared.entry.Entry.{Entry}
use Rattle.edb_event.specs.Books.{commands_of}
use Rattle.edb_rules.specs.Plans.{Plan}
use Rattle.edb_rules.specs.Facts.{Facts}
use Rattle.edb_rules.specs.Consoles.{command_of}
use Rattle.edb_rules.specs.Replies.{resolved}

-- whether an entry answers a command of console c
abbrev pub is_of : ℕ → Option (ℕ × Call) → Bool
is_of c None = false
is_of c (Some x) = nat_eq x.0 c

abbrev pub is_command_of : ℕ → Entry → Bool
is_command_of c e = is_of c (command_of e)

-- how many commands of console c a journal answers
abbrev pub commands_in : ℕ → List Entry → ℕ
commands_in c journal = count_by (is_command_of c) journal

-- the plan's command of console c at place n, with its word found to be a process, is this one
pub record IsCommandAt (plan : Plan) (f : Facts) (c n : ℕ) (x : Call) : Type 0 where
  pub command : Command
  pub stands : slice_get (commands_of c plan.commands) n ≡ Some command
  pub same : resolved f c command ≡ x
