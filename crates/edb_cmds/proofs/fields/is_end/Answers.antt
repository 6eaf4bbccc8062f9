use Rattle.edb_cmds.proofs.FieldLaws.{end_answer}
use Rattle.edb_cmds.proofs.fields.is_end.Goals as goal

pub returns : goal.returns
returns c = end_answer c.args.text.now c.skip_spaces.result.now c.skip_spaces.ensures c.is_empty.result c.is_empty.ensures
