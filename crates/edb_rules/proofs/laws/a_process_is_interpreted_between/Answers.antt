use Rattle.edb_rules.proofs.Told.{inside_is}
use Rattle.edb_rules.proofs.laws.a_process_is_interpreted_between.Goals as goal

pub returns : goal.returns
returns c = inside_is
