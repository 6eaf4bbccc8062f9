-- What contracts see of a journal and of scripts.

use Rattle.std.specs.Prelude.{ℕ, zero, suc, ◌-◌, List, [], ◌∷◌, ◌++◌, slice_index_or, replicate}
use Rattle.edb_event.specs.declared.entry.Entry.{Entry}
use Rattle.edb_event.specs.declared.call.Command.{Command}

-- the entries in order, and for how many more there is room without taking memory
pub record Book : Type 0 where
  pub entries : List Entry
  pub spare : ℕ

-- a list of commands for each console, the first one's first
abbrev pub Commands : Type 0
Commands = List (List Command)

-- eight consoles without commands
abbrev pub no_commands : Commands
no_commands = replicate 8 []

-- the commands of a console; consoles are counted from 1
abbrev pub commands_of : ℕ → Commands → List Command
commands_of console scripts = slice_index_or scripts (console - 1) []

-- a command more behind the list at this place, counted from 0; lists that aren't there yet are empty
abbrev pub added_at : ℕ → Command → Commands → Commands
added_at zero command [] = (command ∷ []) ∷ []
added_at zero command (own ∷ others) = (own ++ command ∷ []) ∷ others
added_at (suc place) command [] = [] ∷ added_at place command []
added_at (suc place) command (other ∷ others) = other ∷ added_at place command others

-- One command more, behind the others of its console; the other consoles have what they had.
abbrev pub with_command : ℕ → Command → Commands → Commands
with_command console command scripts = added_at (console - 1) command scripts
