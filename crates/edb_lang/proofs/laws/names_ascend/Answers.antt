use Rattle.edb_lang.proofs.PairsLaws.{ascends-with_pair}
use Rattle.edb_lang.proofs.laws.names_ascend.Goals as goal

pub returns : goal.returns
returns c = λ x t ps a. ascends-with_pair x t ps a
