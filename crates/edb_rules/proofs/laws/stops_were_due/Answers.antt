use Rattle.edb_rules.proofs.Stops.{stop_due}
use Rattle.edb_rules.proofs.laws.stops_were_due.Goals as goal

pub returns : goal.returns
returns c = stop_due
