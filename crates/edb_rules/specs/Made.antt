-- What the interpreter server has after a journal, told from its entries alone.

use Rattle.std.specs.Prelude.{ℕ, true, if◌then◌else◌, List, [], ◌∷◌, ◌++◌}
use Rattle.std.specs.List.{fold}
use Rattle.edb_breaks.specs.Table.{Table, empty_table, with_row}
use Rattle.edb_rules.specs.TableEdits.{triggered}
use Rattle.edb_event.specs.declared.call.Call.TheVariants as command
use Rattle.edb_event.specs.declared.reply.Reply.TheVariants as reply
use Rattle.edb_event.specs.declared.entry.Entry.{Entry}
use Rattle.edb_event.specs.declared.entry.Entry.TheVariants as entry
use Rattle.edb_rules.specs.Server.{is_among}

-- an `ib` that was done adds a row; a trigger that was applied makes its row active or inactive, or takes it out; all else
-- leaves the table
abbrev pub table_with : Table → Entry → Table
table_with t (entry.Served c (command.Ib m l) reply.Ok) = with_row m l t
table_with t (entry.Trigger p m l serial a true) = triggered a serial m l t
table_with t _ = t

abbrev pub table_of : List Entry → Table
table_of journal = fold table_with empty_table journal

-- an `ii` that was done adds its module behind the others, where it isn't among them
abbrev pub modules_with : List (List ℕ) → Entry → List (List ℕ)
modules_with ms (entry.Served c (command.Ii m) reply.Ok) = if is_among m ms then ms else ms ++ m ∷ []
modules_with ms _ = ms

abbrev pub modules_of : List Entry → List (List ℕ)
modules_of journal = fold modules_with [] journal

-- an `ia` that was done attaches its console to its process
abbrev pub attached_with : List (ℕ × ℕ) → Entry → List (ℕ × ℕ)
attached_with pairs (entry.Served c (command.Ia p) reply.Ok) = pairs ++ (p, c) ∷ []
attached_with pairs _ = pairs

abbrev pub attached_of : List Entry → List (ℕ × ℕ)
attached_of journal = fold attached_with [] journal
