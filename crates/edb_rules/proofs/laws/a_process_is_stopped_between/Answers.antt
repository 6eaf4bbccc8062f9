use Rattle.edb_rules.proofs.Told.{stopped_is}
use Rattle.edb_rules.proofs.laws.a_process_is_stopped_between.Goals as goal

pub returns : goal.returns
returns c = stopped_is
