use Rattle.std.proofs.Common.{[], ◌∷◌}
use Rattle.edb_cmds.specs.Fields.{process, status}
use Rattle.edb_cmds.proofs.FieldLaws.{no_word, word_found, word_only}
use Rattle.edb_cmds.proofs.fields.read_process_status.Goals as goal

pub returns-in_err-word : goal.returns-in_err-word
returns-in_err-word c = rw c.from_residual.ensures (λ w s. no_word c.args.text.now (process w) (status s ∷ []) c.in_err-word.ensures tt)

pub returns-in_err-found : goal.returns-in_err-found
returns-in_err-found c =
    rw c.from_residual-in_err-found.ensures
    (λ w s h. c.in_err-found.ensures w (word_only c.args.text.now c.in_ok-word.word.now c.in_ok-word.rest.now (process w) (status s ∷ []) c.in_ok-word.ensures tt h).0)

pub returns-in_err-last : goal.returns-in_err-last
returns-in_err-last c =
    rw c.from_residual-in_err-last.ensures
    (λ w s h. c.in_err-last.ensures s (word_only c.args.text.now c.in_ok-word.word.now c.in_ok-word.rest.now (process w) (status s ∷ []) c.in_ok-word.ensures tt h).1)

pub returns : goal.returns
returns c =
    word_found c.args.text.now c.in_ok-word.word.now c.in_ok-word.rest.now (process c.in_ok-found.found) (status c.in_ok-last.last ∷ []) c.in_ok-word.ensures tt c.in_ok-found.ensures c.in_ok-last.ensures
