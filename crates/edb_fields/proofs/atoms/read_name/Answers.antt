use Rattle.edb_lang.specs.TermText.{atom_text}
use Rattle.edb_fields.specs.Atoms.{IsAtomName, name_at}
use Rattle.edb_fields.proofs.AtomLaws.{name_exact}
use Rattle.edb_fields.proofs.Told.{found_told, none_told}
use Rattle.edb_fields.proofs.atoms.read_name.Goals as goal

pub returns-clause-found : goal.returns-clause-found
returns-clause-found c =
    found_told atom_text IsAtomName c.args.bytes.now (λ x. x.0) (λ x. x.1.now) (name_at c.args.bytes.now) (name_exact c.args.bytes.now)
    c.field_name.result c.field_name.ensures

pub returns-clause-none : goal.returns-clause-none
returns-clause-none c =
    none_told atom_text IsAtomName c.args.bytes.now (λ x. (x.0, x.1.now)) (name_at c.args.bytes.now) (name_exact c.args.bytes.now)
    c.field_name.result c.field_name.ensures
