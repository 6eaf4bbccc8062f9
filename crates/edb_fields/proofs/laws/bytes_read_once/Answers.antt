use Rattle.edb_fields.specs.Hexadecimal.{AreBytes, hex_text, bytes_at}
use Rattle.edb_fields.proofs.HexLaws.{bytes_exact}
use Rattle.edb_fields.proofs.Told.{once_told}
use Rattle.edb_fields.proofs.laws.bytes_read_once.Goals as goal

pub returns : goal.returns
returns c = once_told hex_text AreBytes bytes_at bytes_exact
