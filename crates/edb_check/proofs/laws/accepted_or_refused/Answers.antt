use Rattle.edb_check.specs.Modules.{module_faults}
use Rattle.edb_check.proofs.Least.{some_first}
use Rattle.edb_check.proofs.laws.accepted_or_refused.Goals as goal

pub returns : goal.returns
returns c = λ m. some_first (module_faults m)
