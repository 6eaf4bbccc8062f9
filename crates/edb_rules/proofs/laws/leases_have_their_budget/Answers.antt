use Rattle.edb_rules.proofs.Taken.{lease_budget}
use Rattle.edb_rules.proofs.laws.leases_have_their_budget.Goals as goal

pub returns : goal.returns
returns c = lease_budget
