use Rattle.std.proofs.Common.{[], ◌∷◌}
use Rattle.edb_cmds.specs.Fields.{line}
use Rattle.edb_cmds.proofs.FieldLaws.{atom_found, atom_only, no_atom}
use Rattle.edb_cmds.proofs.fields.read_module_line.Goals as goal

pub returns-in_default : goal.returns-in_default
returns-in_default c = λ m l. no_atom c.args.text.now m (line l ∷ []) (rw c.in_default.is at c.in_ok-name.ensures)

pub returns-in_default-read_last_line : goal.returns-in_default-read_last_line
returns-in_default-read_last_line c = λ m l h.
    c.in_default-read_last_line.ensures l (atom_only c.args.text.now c.in-Some.name c.in-Some.rest.now m (line l ∷ []) (rw c.in-Some.is at c.in_ok-name.ensures) h)

pub returns : goal.returns
returns c =
    atom_found c.args.text.now c.in-Some.name c.in-Some.rest.now (line c.in-Some-read_last_line.number ∷ []) (rw c.in-Some.is at c.in_ok-name.ensures) c.in-Some-read_last_line.ensures
