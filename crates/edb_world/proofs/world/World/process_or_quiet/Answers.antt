use Rattle.std.proofs.Common.{arith}
use Rattle.edb_world.proofs.Turning.{few_here, turn_here}
use Rattle.edb_world.proofs.world.World.process_or_quiet.Goals as goal

pub next_turn-requires-clause-few : goal.next_turn-requires-clause-few
next_turn-requires-clause-few c = omega (arith, few_here c.args.self.now c.requires.going.keeps)

pub next_turn-requires-clause-within : goal.next_turn-requires-clause-within
next_turn-requires-clause-within c = turn_here c.args.self.now c.requires.going.keeps
