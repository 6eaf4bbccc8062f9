use Rattle.edb_lang.proofs.PairsLaws.{bound-with_pair_new}
use Rattle.edb_lang.proofs.laws.bound_is_found.Goals as goal

pub returns : goal.returns
returns c = λ x t ps a n. bound-with_pair_new x t ps a n
