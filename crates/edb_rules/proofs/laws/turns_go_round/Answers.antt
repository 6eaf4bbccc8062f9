use Rattle.edb_rules.proofs.Nexts.{no_sooner}
use Rattle.edb_rules.proofs.laws.turns_go_round.Goals as goal

pub returns : goal.returns
returns c = no_sooner
