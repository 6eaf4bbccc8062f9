use Rattle.edb_event.proofs.ScriptLaws.{own_has_it}
use Rattle.edb_event.proofs.laws.added_command_is_last.Goals as goal

pub returns : goal.returns
returns c = λ console command scripts. own_has_it console command scripts
