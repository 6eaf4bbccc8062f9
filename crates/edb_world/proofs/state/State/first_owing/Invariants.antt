use Rattle.edb_world.proofs.Rounds.{OweNone}
use Rattle.edb_world.proofs.state.State.first_owing.Given as goal

-- none before this one owes a trigger
abbrev pub invariant-loop-pid : goal.invariant-loop-pid
invariant-loop-pid l = OweNone l.self.facts 1 l.pid
