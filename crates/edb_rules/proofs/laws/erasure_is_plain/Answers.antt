use Rattle.edb_rules.proofs.Journals.{erased}
use Rattle.edb_rules.proofs.laws.erasure_is_plain.Goals as goal

pub returns : goal.returns
returns c = erased
