use Rattle.edb_rules.proofs.Nexts.{commands_first}
use Rattle.edb_rules.proofs.laws.commands_go_before_turns.Goals as goal

pub returns : goal.returns
returns c = commands_first
