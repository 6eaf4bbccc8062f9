use Rattle.std.proofs.Common.{[]}
use Rattle.edb_cmds.proofs.FieldLaws.{atom_found, atom_only, no_atom}
use Rattle.edb_cmds.proofs.fields.read_module.Goals as goal

pub returns-in_default : goal.returns-in_default
returns-in_default c = λ m. no_atom c.args.text.now m [] (rw c.in_default.is at c.in_ok-name.ensures)

pub returns-then-is_end : goal.returns-then-is_end
returns-then-is_end c = atom_found c.args.text.now c.in-Some.name c.in-Some.rest.now [] (rw c.in-Some.is at c.in_ok-name.ensures) c.if-is_end.ensures

pub returns-else-is_end : goal.returns-else-is_end
returns-else-is_end c = λ m h.
    c.if-is_end.ensures (atom_only c.args.text.now c.in-Some.name c.in-Some.rest.now m [] (rw c.in-Some.is at c.in_ok-name.ensures) h)
