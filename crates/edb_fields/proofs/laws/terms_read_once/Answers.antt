use Rattle.edb_lang.specs.TermText.{plain_text}
use Rattle.edb_fields.specs.Literals.{IsPlain}
use Rattle.edb_fields.specs.TermReading.{plain_at}
use Rattle.edb_fields.proofs.TermLaws.{plain_exact}
use Rattle.edb_fields.proofs.Told.{once_told}
use Rattle.edb_fields.proofs.laws.terms_read_once.Goals as goal

pub returns : goal.returns
returns c = λ levels room. once_told plain_text (IsPlain levels room) (plain_at levels room) (plain_exact levels room)
