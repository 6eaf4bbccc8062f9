use Rattle.edb_scan.proofs.OneParting.{tokens_one, faults_one, tokens_or_fault}
use Rattle.edb_scan.proofs.top.one_answer.Goals as goal

pub returns-clause-tokens : goal.returns-clause-tokens
returns-clause-tokens c = tokens_one

pub returns-clause-fault : goal.returns-clause-fault
returns-clause-fault c = faults_one

pub returns-clause-never_both : goal.returns-clause-never_both
returns-clause-never_both c = tokens_or_fault
