use Rattle.edb_journal_read.proofs.EntryLaws.{found_first, none_first}
use Rattle.edb_journal_read.proofs.entries.read_entry.Goals as goal

pub returns-clause-found : goal.returns-clause-found
returns-clause-found c =
    found_first c.args.bytes.now (λ x. x.0) (λ x. x.1.now) c.compared.result c.compared.ensures.read c.compared.ensures.range c.compared.ensures.wide

pub returns-clause-none : goal.returns-clause-none
returns-clause-none c = none_first c.args.bytes.now (λ x. (x.0, x.1.now)) c.compared.result c.compared.ensures.read
