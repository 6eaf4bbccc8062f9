use Rattle.std.proofs.Common.{[]}
use Rattle.edb_cmds.specs.Fields.{line}
use Rattle.edb_cmds.proofs.FieldLaws.{no_word, word_found, word_only}
use Rattle.edb_cmds.proofs.fields.read_last_line.Goals as goal

pub returns-in_err-word : goal.returns-in_err-word
returns-in_err-word c = rw c.from_residual.ensures (λ x. no_word c.args.text.now (line x) [] c.in_err-word.ensures tt)

pub returns-in_err-number : goal.returns-in_err-number
returns-in_err-number c =
    rw c.from_residual-in_err-number.ensures
    (λ x h. c.in_err-number.ensures x (word_only c.args.text.now c.in_ok-word.word.now c.in_ok-word.rest.now (line x) [] c.in_ok-word.ensures tt h).0)

pub returns-then-is_end : goal.returns-then-is_end
returns-then-is_end c =
    word_found c.args.text.now c.in_ok-word.word.now c.in_ok-word.rest.now (line c.in_ok-number.number) [] c.in_ok-word.ensures tt c.in_ok-number.ensures c.if-is_end.ensures

pub returns-else-is_end : goal.returns-else-is_end
returns-else-is_end c = λ x h. c.if-is_end.ensures (word_only c.args.text.now c.in_ok-word.word.now c.in_ok-word.rest.now (line x) [] c.in_ok-word.ensures tt h).1
