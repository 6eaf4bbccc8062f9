use Rattle.edb_cmds.proofs.KindLaws.{blank_answer}
use Rattle.edb_cmds.proofs.commands.is_blank.Goals as goal

pub returns-in-Some : goal.returns-in-Some
returns-in-Some c = blank_answer c.args.line.now c.skip_spaces.result.now c.skip_spaces.ensures c.in-Some.byte.now c.in-Some.ensures.value
