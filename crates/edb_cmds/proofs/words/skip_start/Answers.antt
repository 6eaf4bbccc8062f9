use Rattle.std.proofs.lemmas.Bool.Decides.{Decides-eqb}
use Rattle.std.proofs.lemmas.Slice.Eq.{strip_prefix_is}
use Rattle.edb_cmds.proofs.WordLaws.{start_answer}
use Rattle.edb_cmds.proofs.words.skip_start.Goals as goal

pub returns : goal.returns
returns c =
    start_answer c.args.line.now c.skip_spaces-text.result.now c.as_slice.result.now c.strip_prefix.result c.skip_spaces-text.ensures c.as_slice.ensures
    (strip_prefix_is Decides-eqb c.skip_spaces-text.result.now c.as_slice.result.now c.strip_prefix.result c.strip_prefix.ensures.cases)
