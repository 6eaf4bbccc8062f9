use Rattle.edb_check.specs.Modules.{module_faults}
use Rattle.edb_check.proofs.Least.{none_first}
use Rattle.edb_check.proofs.laws.never_both.Goals as goal

pub returns : goal.returns
returns c = λ m. none_first (module_faults m)
