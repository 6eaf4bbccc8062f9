use Rattle.std.proofs.Common.{◌||◌, ◌∙◌, sym, ap}
use Rattle.edb_breaks.specs.Table.{enabled_row, is_row}
use Rattle.edb_breaks.proofs.Turns.{turned}
use Rattle.edb_breaks.proofs.rows.enable_rows.Goals.{then-enable_row, else-enable_row}
use Rattle.edb_breaks.proofs.rows.enable_rows.Goals as goal

-- src/rows.rt:29:5
pub loop-row-preserved : goal.loop-row-preserved
loop-row-preserved c =
    let write = enabled_row c.args.serial c.args.module.now c.args.line in
    let test = is_row c.args.serial c.args.module.now c.args.line in
    let (made, found) = c.loop-row.invariant in
    let after =
    turned write test c.args.rows.now c.loop-row.rows c.loop-row.row-index c.row-item.result c.loop-row-test.true made c.row-item.is
    c.enable_row.new.row c.enable_row.result c.loop-row.found
    (c.enable_row.ensures.row ∙ ap write (sym c.row-item.is)) (c.enable_row.ensures.found ∙ ap test (sym c.row-item.is)) found in (
      after.0,
      elim c.if-enable_row.branch [
        | then-enable_row w ↦ w.found-is ∙ sym (ap (λ b. b || c.loop-row.found) w.if-enable_row.true) ∙ after.1
        | else-enable_row w ↦ w.found-is ∙ sym (ap (λ b. b || c.loop-row.found) w.if-enable_row.false) ∙ after.1
      ],
    )
