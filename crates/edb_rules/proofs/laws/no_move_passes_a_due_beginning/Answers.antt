use Rattle.edb_rules.proofs.Stops.{none_passed}
use Rattle.edb_rules.proofs.laws.no_move_passes_a_due_beginning.Goals as goal

pub returns : goal.returns
returns c = none_passed
