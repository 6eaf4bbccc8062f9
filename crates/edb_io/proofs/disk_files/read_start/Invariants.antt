use Rattle.std.proofs.Common.{◌-◌, ◌≤◌, length}
use Rattle.edb_io.proofs.disk_files.read_start.Given as goal

-- no more was read than was asked for
abbrev pub invariant-loop-piece : goal.invariant-loop-piece
invariant-loop-piece g l = length l.bytes ≤ l.most

-- each turn reads some of what is still asked for
abbrev pub decreases-loop-piece : goal.decreases-loop-piece
decreases-loop-piece g l = l.most - length l.bytes
