-- What may stand next, as the searches of a world tell it.

use Rattle.std.specs.Prelude.{◌≡◌, ℕ, true, None, Some}
use Rattle.edb_event.specs.Ranges.{IsConsole}
use Rattle.edb_rules.specs.Plans.{Plan}
use Rattle.edb_rules.specs.Facts.{Facts}
use Rattle.edb_rules.specs.Replies.{next_call, is_enabled}
use Rattle.edb_rules.specs.Turns.{turn_of}
use Rattle.edb_rules.specs.Ranks.{AtTurn, IsNext}
use Rattle.edb_world.specs.declared.commands.NextCommand.{NextCommand}
use Rattle.edb_world.specs.declared.commands.NextCommand.TheVariants as next

-- no console has a command left
abbrev pub IsAllAnswered : Plan → Facts → Type 0
IsAllAnswered plan f = (c : ℕ) → IsConsole c → next_call plan f c ≡ None

-- What the next command of console 1 asks for: to be served, since it is enabled; or to wait, or nothing, and then a process
-- may have its turn.
abbrev pub IsNextCommand : Plan → Facts → NextCommand → Type 0
IsNextCommand plan f (next.Enabled x) = IsNext plan f 1 x × (is_enabled f x ≡ true)
IsNextCommand plan f (next.Waits x) = AtTurn plan f × (next_call plan f 1 ≡ Some x)
IsNextCommand plan f next.Through = AtTurn plan f × IsAllAnswered plan f

-- no process is ready for a turn
abbrev pub IsStill : Facts → Type 0
IsStill f = (p : ℕ) → turn_of f p ≡ None
