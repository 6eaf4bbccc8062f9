use Rattle.edb_rules.proofs.Halted.{a_move}
use Rattle.edb_rules.proofs.laws.a_move_stands_between_stops.Goals as goal

pub returns : goal.returns
returns c = a_move
