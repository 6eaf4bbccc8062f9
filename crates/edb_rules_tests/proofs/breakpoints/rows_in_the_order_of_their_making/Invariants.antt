use Rattle.std.proofs.Common.{◌≤◌, length}
use Rattle.edb_rules_tests.proofs.breakpoints.rows_in_the_order_of_their_making.Given as goal

abbrev pub invariant-loop-module : goal.invariant-loop-module
invariant-loop-module g l = (l.breaks.given ≤ l.module-index) × (length l.module-items ≤ 5)
