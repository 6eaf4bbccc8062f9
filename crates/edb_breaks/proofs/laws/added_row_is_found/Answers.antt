use Rattle.edb_breaks.proofs.TableLaws.{row_at-with_row}
use Rattle.edb_breaks.proofs.laws.added_row_is_found.Goals as goal

pub returns : goal.returns
returns c = row_at-with_row
