use Rattle.edb_rules.proofs.Stops.{stop_level, enter_call}
use Rattle.edb_rules.proofs.laws.stops_tell_their_level.Goals as goal

pub returns : goal.returns
returns c = record { stop = stop_level; enter = enter_call }
