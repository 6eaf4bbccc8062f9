use Rattle.edb_breaks.proofs.TableLaws.{each_found}
use Rattle.edb_breaks.proofs.laws.each_row_is_found.Goals as goal

pub returns : goal.returns
returns c = each_found
