use Rattle.edb_session.proofs.Pieces.{journal_read}
use Rattle.edb_session.proofs.laws.written_journals_are_read.Goals as goal

pub returns : goal.returns
returns c = journal_read
