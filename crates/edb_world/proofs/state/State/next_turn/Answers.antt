use Rattle.std.proofs.Common.{rules}
use Rattle.edb_world.proofs.Rounds.{first_round}
use Rattle.edb_world.proofs.state.State.next_turn.Goals as goal

pub returns-in-None : goal.returns-in-None
returns-in-None c =
    first_round c.args.self.now.facts c.first_ready-in-None.result c.self.inside.turn _ (search rules) (search rules)
    c.in-None.ensures c.first_ready-in-None.ensures
