use Rattle.edb_lang.proofs.OrderLaws.{same_term, equal_term}
use Rattle.edb_lang.proofs.laws.order_equal_is_same.Goals as goal

pub returns : goal.returns
returns c = λ x y. (same_term x y, equal_term x y)
