use Rattle.edb_check.proofs.Least.{one_first}
use Rattle.edb_check.proofs.laws.one_verdict.Goals as goal

pub returns : goal.returns
returns c = one_first
