use Rattle.edb_breaks.proofs.TableLaws.{row_at-with_row_other}
use Rattle.edb_breaks.proofs.laws.other_places_stay.Goals as goal

pub returns : goal.returns
returns c = λ m n l k t. row_at-with_row_other m l t n k
