use Rattle.edb_world.proofs.Rounds.{leases_here, acting_here}
use Rattle.edb_world.proofs.world.World.process.Goals as goal

pub slice-requires-clause-turn : goal.slice-requires-clause-turn
slice-requires-clause-turn c = leases_here c.args.self.now.state.facts c.args.pid c.args.turn c.requires.turn c.in-Leases.is

pub act-requires-clause-acting : goal.act-requires-clause-acting
act-requires-clause-acting c = acting_here c.args.self.now.state.facts c.args.pid c.in-Does.kind c.args.turn c.requires.turn c.in-Does.is
