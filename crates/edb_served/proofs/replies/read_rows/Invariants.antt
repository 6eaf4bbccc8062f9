use Rattle.std.proofs.Common.{◌≡◌, ◌+◌, [], length}
use Rattle.edb_journal.specs.Wide.{AreRows}
use Rattle.edb_served.specs.Answers.{rows_at}
use Rattle.edb_served.proofs.replies.read_rows.Given as goal

-- what the rows that are left give is what all give
abbrev pub invariant-loop-more : goal.invariant-loop-more
invariant-loop-more l = record {
  read : rows_at l.more l.found.items l.rest ≡ rows_at l.fn.count [] l.fn.bytes;
  counted : length l.found.items + l.more ≡ l.fn.count;
  range : AreRows l.found.items;
}

abbrev pub decreases-loop-more : goal.decreases-loop-more
decreases-loop-more l = l.more
