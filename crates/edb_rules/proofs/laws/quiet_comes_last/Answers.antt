use Rattle.edb_rules.proofs.Nexts.{quiet_is}
use Rattle.edb_rules.proofs.laws.quiet_comes_last.Goals as goal

pub returns : goal.returns
returns c = quiet_is
