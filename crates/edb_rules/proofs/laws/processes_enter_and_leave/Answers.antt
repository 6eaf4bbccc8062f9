use Rattle.edb_rules.proofs.Nexts.{enters_next, leaves_next}
use Rattle.edb_rules.proofs.laws.processes_enter_and_leave.Goals as goal

pub returns : goal.returns
returns c = record { enters = enters_next; leaves = leaves_next }
