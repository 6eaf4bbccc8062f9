use Rattle.edb_rules.proofs.Weighed.{weight_is}
use Rattle.edb_rules.proofs.laws.journals_weigh_so.Goals as goal

pub returns : goal.returns
returns c = weight_is
