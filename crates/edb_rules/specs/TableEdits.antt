-- What else is done to the table of breakpoints: some of its rows are changed, and some go.

use Rattle.std.specs.Prelude.{ℕ, Bool, if◌then◌else◌, not, List, Some, is_some, map}
use Rattle.std.specs.List.{filter, fold, list_any}
use Rattle.edb_lang.specs.declared.small.Action.{Action}
use Rattle.edb_lang.specs.declared.small.Action.TheVariants as action
use Rattle.edb_lang.specs.declared.small.Break.{Break}
use Rattle.edb_lang.specs.declared.small.BreakRow.{BreakRow}
use Rattle.edb_lang.specs.declared.small.Status.TheVariants.{Active, Inactive}
use Rattle.edb_lang.specs.TermText.{same_name}
use Rattle.edb_breaks.specs.Table.{Table, is_at, is_row, row_at, with_row}

-- the breakpoint of a row, changed if the row is one of these
abbrev pub changed_row : (BreakRow → Bool) → (Break → Break) → BreakRow → BreakRow
changed_row is change r = if is r then record r { row = change r.row } else r

-- these rows changed; all else is as it was
abbrev pub with_changed_rows : (BreakRow → Bool) → (Break → Break) → Table → Table
with_changed_rows is change t = record t { rows = map (changed_row is change) t.rows }

-- these rows gone; no serial is given again
abbrev pub without_rows : (BreakRow → Bool) → Table → Table
without_rows is t = record t { rows = filter (λ r. not (is r)) t.rows }

abbrev pub active : Break → Break
active b = record b { status = Active }

abbrev pub inactive : Break → Break
inactive b = record b { status = Inactive }

abbrev pub with_trigger : Action → Break → Break
with_trigger a b = record b { trigger = a }

abbrev pub with_condition : List ℕ × List ℕ → Break → Break
with_condition c b = record b { cond = Some c }

-- whether a row is of this module
abbrev pub is_of : List ℕ → BreakRow → Bool
is_of m r = same_name m r.module

-- whether a row is at one of these lines of a module
abbrev pub is_at_some : List ℕ → List ℕ → BreakRow → Bool
is_at_some m ls r = list_any (λ l. is_at m l r) ls

-- a breakpoint at each of these lines that has none yet, one by one
abbrev pub with_line : List ℕ → Table → ℕ → Table
with_line m t l = if is_some (row_at m l t) then t else with_row m l t

abbrev pub with_lines : List ℕ → List ℕ → Table → Table
with_lines m ls t = fold (with_line m) t ls

-- WHAT A TRIGGER DOES to the breakpoint of a serial at a place: it is made active, made inactive, or deleted. Where the table
-- has none with the serial there, nothing changes.
abbrev pub triggered : Action → ℕ → List ℕ → ℕ → Table → Table
triggered action.Enable serial m l t = with_changed_rows (is_row serial m l) active t
triggered action.Disable serial m l t = with_changed_rows (is_row serial m l) inactive t
triggered action.Delete serial m l t = without_rows (is_row serial m l) t
