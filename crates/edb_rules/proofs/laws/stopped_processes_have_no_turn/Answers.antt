use Rattle.edb_rules.proofs.Halted.{no_turn}
use Rattle.edb_rules.proofs.laws.stopped_processes_have_no_turn.Goals as goal

pub returns : goal.returns
returns c = no_turn
