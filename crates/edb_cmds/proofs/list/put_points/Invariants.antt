use Rattle.std.proofs.Common.{◌≡◌, ◌++◌, map, take}
use Rattle.std.specs.Prelude.{pos}
use Rattle.edb_cmds.proofs.list.put_points.Given as goal

abbrev pub invariant-loop-point : goal.invariant-loop-point
invariant-loop-point l = l.integers.items ≡ l.fn.integers.items ++ map pos (take l.point-index l.points)
