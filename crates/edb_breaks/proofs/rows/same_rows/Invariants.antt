use Rattle.std.proofs.Common.{◌≡◌, length, take}
use Rattle.edb_breaks.proofs.rows.same_rows.Given as goal

abbrev pub invariant-loop-row : goal.invariant-loop-row
invariant-loop-row l = take (length l.yielded) l.left ≡ take (length l.yielded) l.right
