use Rattle.edb_small.proofs.Whole.{modules_one}
use Rattle.edb_small.proofs.top.one_module.Goals as goal

pub returns : goal.returns
returns c = modules_one c.one_answer.ensures.tokens
