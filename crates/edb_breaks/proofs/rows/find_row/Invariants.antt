use Rattle.std.proofs.Common.{◌≡◌, drop}
use Rattle.std.specs.Prelude.{find}
use Rattle.edb_breaks.specs.Table.{is_at}
use Rattle.edb_breaks.proofs.rows.find_row.Given as goal

abbrev pub invariant-loop-row : goal.invariant-loop-row
invariant-loop-row l =
    find (is_at l.module l.line) (drop l.row-index l.rows) ≡ find (is_at l.module l.line) l.rows
