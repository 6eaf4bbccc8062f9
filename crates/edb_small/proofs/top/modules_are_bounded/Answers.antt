use Rattle.edb_small.proofs.Bounds.{module_bounded}
use Rattle.edb_small.proofs.top.modules_are_bounded.Goals as goal

pub returns : goal.returns
returns c = module_bounded
