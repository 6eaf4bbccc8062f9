use Rattle.edb_lang.specs.TermText.{atom_text}
use Rattle.edb_fields.specs.Atoms.{IsAtomName, name_at}
use Rattle.edb_fields.proofs.AtomLaws.{name_exact}
use Rattle.edb_fields.proofs.Told.{once_told}
use Rattle.edb_fields.proofs.laws.names_read_once.Goals as goal

pub returns : goal.returns
returns c = once_told atom_text IsAtomName name_at name_exact
