use Rattle.edb_world.proofs.Standing.{next_known}
use Rattle.edb_world.proofs.world.World.command_or_process.Goals as goal

pub next_command-requires-clause-known : goal.next_command-requires-clause-known
next_command-requires-clause-known c = λ x next. next_known c.args.self.now.state.plan c.args.self.now.state.facts x c.requires.plan.known next
