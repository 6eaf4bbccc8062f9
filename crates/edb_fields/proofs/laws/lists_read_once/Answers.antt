use Rattle.edb_lang.specs.TermText.{plain_text}
use Rattle.edb_fields.specs.Literals.{IsPlainList}
use Rattle.edb_fields.specs.TermReading.{args_at}
use Rattle.edb_fields.proofs.TermLaws.{args_exact}
use Rattle.edb_fields.proofs.Told.{once_told}
use Rattle.edb_fields.proofs.laws.lists_read_once.Goals as goal

pub returns : goal.returns
returns c = once_told plain_text IsPlainList args_at args_exact
