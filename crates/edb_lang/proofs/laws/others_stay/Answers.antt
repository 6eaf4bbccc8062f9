use Rattle.edb_lang.proofs.PairsLaws.{bound-with_pair_apart}
use Rattle.edb_lang.proofs.laws.others_stay.Goals as goal

pub returns : goal.returns
returns c = λ x y t ps n. bound-with_pair_apart x y t ps n
