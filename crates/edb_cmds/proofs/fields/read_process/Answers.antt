use Rattle.std.proofs.Common.{[]}
use Rattle.edb_cmds.specs.Fields.{process}
use Rattle.edb_cmds.proofs.FieldLaws.{no_word, word_found, word_only}
use Rattle.edb_cmds.proofs.fields.read_process.Goals as goal

pub returns-in_err-word : goal.returns-in_err-word
returns-in_err-word c = rw c.from_residual.ensures (λ x. no_word c.args.text.now (process x) [] c.in_err-word.ensures tt)

pub returns-in_err-found : goal.returns-in_err-found
returns-in_err-found c =
    rw c.from_residual-in_err-found.ensures
    (λ x h. c.in_err-found.ensures x (word_only c.args.text.now c.in_ok-word.word.now c.in_ok-word.rest.now (process x) [] c.in_ok-word.ensures tt h).0)

pub returns-then-is_end : goal.returns-then-is_end
returns-then-is_end c =
    word_found c.args.text.now c.in_ok-word.word.now c.in_ok-word.rest.now (process c.in_ok-found.found) [] c.in_ok-word.ensures tt c.in_ok-found.ensures c.if-is_end.ensures

pub returns-else-is_end : goal.returns-else-is_end
returns-else-is_end c = λ x h. c.if-is_end.ensures (word_only c.args.text.now c.in_ok-word.word.now c.in_ok-word.rest.now (process x) [] c.in_ok-word.ensures tt h).1
