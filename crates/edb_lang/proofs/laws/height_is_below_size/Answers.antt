use Rattle.edb_lang.proofs.Measures.{height_le-size}
use Rattle.edb_lang.proofs.laws.height_is_below_size.Goals as goal

pub returns : goal.returns
returns c = λ t. height_le-size t
