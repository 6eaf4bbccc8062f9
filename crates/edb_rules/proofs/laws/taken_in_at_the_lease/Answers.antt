use Rattle.edb_rules.proofs.Taken.{taken_at}
use Rattle.edb_rules.proofs.laws.taken_in_at_the_lease.Goals as goal

pub returns : goal.returns
returns c = taken_at
