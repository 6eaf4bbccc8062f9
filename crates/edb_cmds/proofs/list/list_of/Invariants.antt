use Rattle.std.proofs.Common.{◌≡◌, length}
use Rattle.edb_cmds.specs.Steps.{list_of}
use Rattle.edb_cmds.proofs.ListRuns.{before}
use Rattle.edb_cmds.proofs.list.list_of.Given as goal

abbrev pub invariant-loop-integer : goal.invariant-loop-integer
invariant-loop-integer l = before l.integers.items l.list ≡ list_of l.fn.integers.items

abbrev pub decreases-loop-integer : goal.decreases-loop-integer
decreases-loop-integer l = length l.integers.items
