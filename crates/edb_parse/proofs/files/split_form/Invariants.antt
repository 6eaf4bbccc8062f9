use Rattle.std.proofs.Common.{◌≡◌, ◌+◌, drop}
use Rattle.edb_grammar.specs.FileReading.{form_length}
use Rattle.edb_parse.proofs.files.split_form.Given as goal

-- the tokens so far are a part of the first form
abbrev pub invariant-loop-index : goal.invariant-loop-index
invariant-loop-index l = form_length l.tokens ≡ l.index + form_length (drop l.index l.tokens)
