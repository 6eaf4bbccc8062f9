use Rattle.edb_journal_read.proofs.Told.{only_told, each_told}
use Rattle.edb_journal_read.proofs.journals.read_journal.Goals as goal

pub returns-clause-only : goal.returns-clause-only
returns-clause-only c = λ es reads. only_told c.args.bytes.now es reads c.read_all.result c.read_all.ensures.found c.read_all.ensures.fault

pub returns-clause-each : goal.returns-clause-each
returns-clause-each c = λ n is. each_told c.args.bytes.now n is c.read_all.result c.read_all.ensures.found c.read_all.ensures.fault
