use Rattle.edb_rules.proofs.Fresh.{moved_since}
use Rattle.edb_rules.proofs.laws.no_stop_comes_again.Goals as goal

pub returns : goal.returns
returns c = moved_since
