use Rattle.edb_rules.proofs.OneJournal.{agree, one}
use Rattle.edb_rules.proofs.laws.one_journal.Goals as goal

pub returns : goal.returns
returns c = record { agree = agree; one = one }
