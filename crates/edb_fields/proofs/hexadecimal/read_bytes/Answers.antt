use Rattle.edb_fields.specs.Hexadecimal.{AreBytes, hex_text, bytes_at}
use Rattle.edb_fields.proofs.HexLaws.{bytes_exact}
use Rattle.edb_fields.proofs.Told.{found_told, none_told}
use Rattle.edb_fields.proofs.hexadecimal.read_bytes.Goals as goal

pub returns-clause-found : goal.returns-clause-found
returns-clause-found c =
    found_told hex_text AreBytes c.args.bytes.now (λ x. x.0) (λ x. x.1.now) (bytes_at c.args.bytes.now) (bytes_exact c.args.bytes.now)
    c.field_bytes.result c.field_bytes.ensures

pub returns-clause-none : goal.returns-clause-none
returns-clause-none c =
    none_told hex_text AreBytes c.args.bytes.now (λ x. (x.0, x.1.now)) (bytes_at c.args.bytes.now) (bytes_exact c.args.bytes.now)
    c.field_bytes.result c.field_bytes.ensures
