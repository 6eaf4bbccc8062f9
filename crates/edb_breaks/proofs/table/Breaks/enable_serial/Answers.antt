use Rattle.std.proofs.Common.{◌∙◌, ap, length, map, sym}
use Rattle.edb_breaks.specs.Table.{enabled_row}
use Rattle.edb_breaks.proofs.TableLaws.{with_enabled-IsSound}
use Rattle.edb_breaks.proofs.Turns.{written_back}
use Rattle.edb_breaks.proofs.table.Breaks.enable_serial.Goals as goal

-- src/table.rt:76:5
pub invariant_of-self : goal.invariant_of-self
invariant_of-self c =
    let rows = c.self.inside.rows in
    let value = c.deref_mut.ensures.value in
    let made = c.enable_rows.ensures.rows ∙ ap (map (enabled_row c.args.serial c.args.module.now c.args.line)) value in
    rw (
      written_back rows.len rows.items c.enable_rows.new.rows (sym (ap length value) ∙ c.deref_mut.ensures.len) (c.enable_rows.auto.rows ∙ ap length value),
      made,
    ) (with_enabled-IsSound c.args.serial c.args.module.now c.args.line (record { rows = rows.items; given = c.self.inside.given }) c.self.invariant)
