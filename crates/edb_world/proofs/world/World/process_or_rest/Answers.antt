use Rattle.std.proofs.Common.{arith}
use Rattle.edb_world.proofs.Turning.{few_here, turn_here}
use Rattle.edb_world.proofs.Standing.{rests}
use Rattle.edb_world.proofs.world.World.process_or_rest.Goals as goal

pub next_turn-requires-clause-few : goal.next_turn-requires-clause-few
next_turn-requires-clause-few c = omega (arith, few_here c.args.self.now c.requires.going.keeps)

pub next_turn-requires-clause-within : goal.next_turn-requires-clause-within
next_turn-requires-clause-within c = turn_here c.args.self.now c.requires.going.keeps

pub returns-in-None : goal.returns-in-None
returns-in-None c =
    let w = c.args.self.now in
    rests w c.requires.going c.requires.at c.requires.through (rw c.in-None.is at c.next_turn.ensures)
