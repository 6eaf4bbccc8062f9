use Rattle.edb_print.proofs.TextsSound.{text_reads}
use Rattle.edb_print.proofs.laws.layout_reads.Goals as goal

pub returns : goal.returns
returns c = λ bytes tokens m h r. let again = text_reads bytes tokens m h r in (again.tree, again.reads, again.same)
