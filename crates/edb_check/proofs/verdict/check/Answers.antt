use Rattle.std.proofs.Common.{sym, ◌∙◌}
use Rattle.edb_check.specs.Modules.{module_faults}
use Rattle.edb_check.proofs.Least.{least_none, least_some}
use Rattle.edb_check.proofs.verdict.check.Goals as goal

pub new-requires : goal.new-requires
new-requires c = least_none (module_faults c.args.module) (sym c.in-None.is ∙ c.in_ok-first_fault.ensures)

pub returns-in-Some-clause-refused : goal.returns-in-Some-clause-refused
returns-in-Some-clause-refused c = least_some (module_faults c.args.module) c.in-Some.fault (sym c.in-Some.is ∙ c.in_ok-first_fault.ensures)
