use Rattle.std.proofs.Common.{rules}
use Rattle.edb_world.proofs.Turning.{at_limit}
use Rattle.edb_world.proofs.world.World.go.Goals as goal

pub returns : goal.returns
returns c =
    let going = c.loop-self.invariant.going in
    (going, c.loop-self.invariant.plan, at_limit c.loop-self.self going.keeps (search rules))
