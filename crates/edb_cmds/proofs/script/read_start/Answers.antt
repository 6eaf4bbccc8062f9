use Rattle.edb_cmds.proofs.WordLaws.{no_start, no_home, no_name, no_list}
use Rattle.edb_cmds.proofs.script.read_start.Goals as goal

pub returns-in_default : goal.returns-in_default
returns-in_default c = no_start c.args.line.now c.in_default.ensures

pub returns-in_default-2 : goal.returns-in_default-2
returns-in_default-2 c = no_home c.args.line.now c.in-Some.rest.now c.in-Some.ensures (rw c.in_default-2.is at c.in_ok-home.ensures)

pub returns-in_default-3 : goal.returns-in_default-3
returns-in_default-3 c =
    no_name c.args.line.now c.in-Some.rest.now c.in-Some-2.home c.in-Some-2.rest.now c.in-Some.ensures (rw c.in-Some-2.is at c.in_ok-home.ensures)
    (rw c.in_default-3.is at c.in_ok-name.ensures)

pub returns-in_default-4 : goal.returns-in_default-4
returns-in_default-4 c =
    no_list c.args.line.now c.in-Some.rest.now c.in-Some-2.home c.in-Some-2.rest.now c.in-Some-3.name c.in-Some-3.rest.now c.in-Some.ensures (rw c.in-Some-2.is at c.in_ok-home.ensures)
    (rw c.in-Some-3.is at c.in_ok-name.ensures) (rw c.in_default-4.is at c.in_ok-args.ensures)
