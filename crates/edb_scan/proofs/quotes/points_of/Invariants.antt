use Rattle.std.proofs.Common.{◌≡◌}
use Rattle.edb_scan.proofs.quotes.points_of.Given as goal

abbrev pub invariant-loop-c : goal.invariant-loop-c
invariant-loop-c l = l.points.items ≡ l.yielded
