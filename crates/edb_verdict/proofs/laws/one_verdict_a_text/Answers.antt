use Rattle.edb_verdict.proofs.OneVerdict.{accepted_one, accepted_or_fault, fault_one}
use Rattle.edb_verdict.proofs.laws.one_verdict_a_text.Goals as goal

pub returns-clause-one_module : goal.returns-clause-one_module
returns-clause-one_module c = accepted_one

pub returns-clause-one_fault : goal.returns-clause-one_fault
returns-clause-one_fault c = fault_one

pub returns-clause-never_both : goal.returns-clause-never_both
returns-clause-never_both c = accepted_or_fault
