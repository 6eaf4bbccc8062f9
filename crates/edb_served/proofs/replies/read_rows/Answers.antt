use Rattle.std.proofs.Common.{◌∙◌, sym, subst, rules}
use Rattle.edb_journal.specs.Wide.{AreRows}
use Rattle.edb_served.proofs.Loops.{row_on, rows_kept}
use Rattle.edb_served.proofs.replies.read_rows.Goals as goal

pub loop-more-preserved : goal.loop-more-preserved
loop-more-preserved c = record {
  read =
      sym (row_on c.loop-more.more c.loop-more.found.items c.push.new.self.items c.loop-more.rest.now c.in_ok-row.row c.in_ok-row.after.now
      c.loop-more-test.true c.in_ok-push.ensures.items c.in_ok-row.ensures.read)
      ∙ c.loop-more.invariant.read;
  counted = search rules;
  range = subst AreRows (sym c.in_ok-push.ensures.items) (rows_kept c.loop-more.found.items c.in_ok-row.row c.loop-more.invariant.range c.in_ok-row.ensures.found.fits);
}
