use Rattle.std.proofs.Common.{length}
use Rattle.edb_cmds.specs.Progress.{Counts, HasRead}
use Rattle.edb_cmds.proofs.listing.read_commands.Given as goal

abbrev pub invariant-loop-rest : goal.invariant-loop-rest
invariant-loop-rest l = record {
  read : HasRead l.bytes l.rest l.commands.items l.line;
  counted : Counts l.started l.commands.items;
}

abbrev pub decreases-loop-rest : goal.decreases-loop-rest
decreases-loop-rest l = length l.rest
