use Rattle.edb_check.proofs.JoinLaws.{join_together}
use Rattle.edb_check.proofs.laws.bound_by_each_way.Goals as goal

pub returns : goal.returns
returns c = join_together
