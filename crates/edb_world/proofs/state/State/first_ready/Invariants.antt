use Rattle.edb_world.specs.Turns.{HaveNone}
use Rattle.edb_world.proofs.state.State.first_ready.Given as goal

-- none before this one is ready
abbrev pub invariant-loop-pid : goal.invariant-loop-pid
invariant-loop-pid l = HaveNone l.self.facts l.from l.pid
