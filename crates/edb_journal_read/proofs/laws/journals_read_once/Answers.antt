use Rattle.edb_journal_read.proofs.Parting.{one_journal, read_or_refused, one_fault}
use Rattle.edb_journal_read.proofs.laws.journals_read_once.Goals as goal

pub returns-clause-one : goal.returns-clause-one
returns-clause-one c = one_journal

pub returns-clause-either : goal.returns-clause-either
returns-clause-either c = read_or_refused

pub returns-clause-first : goal.returns-clause-first
returns-clause-first c = one_fault
