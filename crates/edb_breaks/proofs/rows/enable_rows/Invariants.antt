use Rattle.std.proofs.Common.{◌≡◌, ◌++◌, map, take, drop}
use Rattle.std.specs.List.{list_any}
use Rattle.edb_breaks.specs.Table.{enabled_row, is_row}
use Rattle.edb_breaks.proofs.rows.enable_rows.Given as goal

abbrev pub invariant-loop-row : goal.invariant-loop-row
invariant-loop-row l =
    (l.rows ≡ map (enabled_row l.serial l.module l.line) (take l.row-index l.initial.rows) ++ drop l.row-index l.initial.rows)
    × (l.found ≡ list_any (is_row l.serial l.module l.line) (take l.row-index l.initial.rows))
