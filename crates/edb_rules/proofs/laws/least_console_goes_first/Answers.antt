use Rattle.edb_rules.proofs.Commanded.{least_console}
use Rattle.edb_rules.proofs.laws.least_console_goes_first.Goals as goal

pub returns : goal.returns
returns c = least_console
