use Rattle.edb_cmds.proofs.commands.start_command.Goals as goal

pub returns-in_default : goal.returns-in_default
returns-in_default c = λ rest x h. (rw c.in_default.is at c.in_ok-start.ensures) h.0 h.1
