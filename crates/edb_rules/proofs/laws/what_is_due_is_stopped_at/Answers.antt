use Rattle.edb_rules.proofs.Nexts.{stops_next, enters_and_stops}
use Rattle.edb_rules.proofs.laws.what_is_due_is_stopped_at.Goals as goal

pub returns : goal.returns
returns c = record { stops = stops_next; enters = enters_and_stops }
