use Rattle.edb_lang.proofs.OrderChain.{below_trans}
use Rattle.edb_lang.proofs.laws.order_is_transitive.Goals as goal

pub returns : goal.returns
returns c = λ x y z p q. below_trans x y z p q
