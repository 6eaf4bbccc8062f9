use Rattle.edb_breaks.proofs.TableLaws.{with_row-IsSound}
use Rattle.edb_breaks.proofs.laws.table_stays_sound.Goals as goal

pub returns : goal.returns
returns c = with_row-IsSound
