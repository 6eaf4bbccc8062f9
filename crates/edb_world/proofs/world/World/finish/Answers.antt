use Rattle.std.proofs.Common.{arith}
use Rattle.edb_world.proofs.Turning.{few_here}
use Rattle.edb_world.proofs.Finishing.{stopped_going}
use Rattle.edb_world.proofs.world.World.finish.Goals as goal

pub take_tables-requires : goal.take_tables-requires
take_tables-requires c =
    record { few = omega (arith, few_here c.go.new.self (stopped_going c.args.self.now c.go.new.self c.in_ok-rests.rests c.in_ok-rests.ensures).keeps) }
