use Rattle.edb_event.proofs.ScriptLaws.{others_lack_it}
use Rattle.edb_event.proofs.laws.other_consoles_stay.Goals as goal

pub returns : goal.returns
returns c = λ console other command scripts from to differ. others_lack_it console other command scripts from to differ
