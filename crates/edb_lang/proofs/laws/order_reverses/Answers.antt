use Rattle.edb_lang.proofs.OrderLaws.{term_back}
use Rattle.edb_lang.proofs.laws.order_reverses.Goals as goal

pub returns : goal.returns
returns c = λ x y. term_back x y
