use Rattle.std.proofs.Common.{arith}
use Rattle.edb_world.proofs.Turning.{begins, few_here}
use Rattle.edb_world.proofs.world.World.turn.Goals as goal

pub first_owing-requires-clause-begin : goal.first_owing-requires-clause-begin
first_owing-requires-clause-begin c = begins c.args.self.now c.requires.going.keeps c.requires.light

pub first_owing-requires-clause-few : goal.first_owing-requires-clause-few
first_owing-requires-clause-few c = omega (arith, few_here c.args.self.now c.requires.going.keeps)
