-- The table of breakpoints: its rows in the order of their making, and how many serials were given.
-- A row is at a place, that is at a line of a module, and no two rows are at one place. A new row comes
-- after the others. It is active, has the action `enable` and no condition, and takes the next serial,
-- which is one more than were given: so serials count from 1, and no serial is given twice.

use Rattle.std.specs.Prelude.{◌≡◌, ℕ, ◌+◌, ◌<◌, ◌≤◌, ◌==◌, ◌&&◌, nat_eq, Bool, if◌then◌else◌, List, [], ◌∷◌, ◌++◌, Option, None, All, AllPairs, find, map}
use Rattle.std.specs.List.{list_any}
use Rattle.std.specs.Option.{option_map}
use Rattle.edb_lang.specs.declared.small.Action.TheVariants.{Enable}
use Rattle.edb_lang.specs.declared.small.Break.{Break}
use Rattle.edb_lang.specs.declared.small.BreakRow.{BreakRow}
use Rattle.edb_lang.specs.declared.small.Status.TheVariants.{Active}
use Rattle.edb_lang.specs.TermText.{same_name}

pub record Table : Type 0 where
  pub rows : List BreakRow
  -- how many serials were given
  pub given : ℕ

-- no rows, and no serial given
abbrev pub empty_table : Table
empty_table = record { rows = []; given = 0 }

-- the row is at this module and line
abbrev pub IsAt : List ℕ → ℕ → BreakRow → Type 0
IsAt m l r = (m ≡ r.module) × (l ≡ r.line)

-- whether it does
abbrev pub is_at : List ℕ → ℕ → BreakRow → Bool
is_at m l r = same_name m r.module && (l == r.line)

-- the breakpoint at this module and line, reading the rows from the top
abbrev pub row_at : List ℕ → ℕ → Table → Option Break
row_at m l t = option_map (λ r. r.row) (find (is_at m l) t.rows)

-- a breakpoint as it is made
abbrev pub new_break : ℕ → Break
new_break serial = record { status = Active; trigger = Enable; cond = None; serial = serial }

-- a row as it is made
abbrev pub new_row : List ℕ → ℕ → ℕ → BreakRow
new_row m l serial = record { «module» = m; line = l; row = new_break serial }

-- the table with a new row at this module and line
abbrev pub with_row : List ℕ → ℕ → Table → Table
with_row m l t = record { rows = t.rows ++ new_row m l (t.given + 1) ∷ []; given = t.given + 1 }

-- whether the row is at this module and line and has this serial
abbrev pub is_row : ℕ → List ℕ → ℕ → BreakRow → Bool
is_row serial m l r = is_at m l r && nat_eq r.row.serial serial

-- whether the table has the row of a serial at a place
abbrev pub has_row : ℕ → List ℕ → ℕ → Table → Bool
has_row serial m l t = list_any (is_row serial m l) t.rows

-- a row once the breakpoint of a serial at a place was made active
abbrev pub enabled_row : ℕ → List ℕ → ℕ → BreakRow → BreakRow
enabled_row serial m l r =
    if is_row serial m l r then record r { row = record r.row { status = Active } } else r

-- The table once the breakpoint of a serial at a place was made active: all else is as it was, and so is
-- the whole table if no row at the place has the serial.
abbrev pub with_enabled : ℕ → List ℕ → ℕ → Table → Table
with_enabled serial m l t = record t { rows = map (enabled_row serial m l) t.rows }

-- what is true of every table
pub record IsSound (t : Table) : Type 0 where
  -- no two rows are at one place
  pub apart : AllPairs (λ r s. ¬ (IsAt r.module r.line s)) t.rows
  -- each row's serial is below those of the rows after it
  pub ascending : AllPairs (λ r s. r.row.serial < s.row.serial) t.rows
  -- each row's serial is one of those that were given
  pub numbered : All (λ r. (1 ≤ r.row.serial) × (r.row.serial ≤ t.given)) t.rows
