use Rattle.edb_cmds.proofs.WordLaws.{atom_no_gap, atom_no_piece, atom_other}
use Rattle.edb_cmds.proofs.words.read_atom.Goals as goal

pub returns-in_default : goal.returns-in_default
returns-in_default c = λ name rest. atom_no_gap c.args.text.now name rest c.in_default.ensures

pub returns-in_default-2 : goal.returns-in_default-2
returns-in_default-2 c = λ name rest. atom_no_piece c.args.text.now c.in-Some.word.now name rest c.in-Some.ensures (rw c.in_default-2.is at c.in_ok-piece.ensures)

pub returns-in_default-atom_of : goal.returns-in_default-atom_of
returns-in_default-atom_of c =
    let found = rw c.in-Some-2.is at c.in_ok-piece.ensures in
    λ name rest. atom_other c.args.text.now c.in-Some.word.now name rest c.in-Some-2.rest.now c.in-Some-2.piece c.in-Some.ensures found.0 c.in_default-atom_of.ensures
