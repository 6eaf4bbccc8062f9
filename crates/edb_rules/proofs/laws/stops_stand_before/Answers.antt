use Rattle.edb_rules.proofs.Stops.{stands_before}
use Rattle.edb_rules.proofs.laws.stops_stand_before.Goals as goal

pub returns : goal.returns
returns c = stands_before
