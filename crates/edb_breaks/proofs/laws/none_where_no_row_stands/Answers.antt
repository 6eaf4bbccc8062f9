use Rattle.edb_breaks.proofs.TableLaws.{row_at-None}
use Rattle.edb_breaks.proofs.laws.none_where_no_row_stands.Goals as goal

pub returns : goal.returns
returns c = λ m l t. row_at-None m l t
