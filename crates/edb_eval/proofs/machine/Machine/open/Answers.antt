use Rattle.edb_eval.proofs.LevelLaws.{highest-opening}
use Rattle.edb_eval.proofs.machine.Machine.open.Goals as goal

pub returns-clause-levels : goal.returns-clause-levels
returns-clause-levels c = highest-opening c.args.«module» c.args.name c.from_vec.result
