use Rattle.std.proofs.Common.{rules}
use Rattle.edb_world.proofs.Rounds.{has_turn}
use Rattle.edb_world.proofs.state.State.first_ready.Goals as goal

pub returns-in-Some : goal.returns-in-Some
returns-in-Some c =
    ((search rules), (search rules), has_turn c.args.self.now.facts c.loop-pid.pid c.in-Some.turn c.in-Some.ensures, c.loop-pid.invariant)
