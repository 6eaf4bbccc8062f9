use Rattle.std.proofs.Common.{arith, ap, length, length-append, get_or, ◌∙◌, ◌+◌, sym}
use Rattle.std.specs.Prelude.{encode_utf8}
use Rattle.std.specs.Str.{continuation_len}
use Rattle.edb_scan.proofs.CharLemmas.{encode_some, char_len_of_first}
use Rattle.edb_scan.proofs.quotes.first_char.Goals as goal

pub returns-in-None-char_of_len : goal.returns-in-None-char_of_len
returns-in-None-char_of_len c = λ d rest scalar e.
    c.in-None-char_of_len.ensures d rest scalar e
    (char_len_of_first d rest c.args.bytes.now scalar e ∙ ap (λ t. continuation_len (get_or t 0 0) + 1) c.in-Some.ensures.cases.0 ∙ sym c.char_len.ensures)

pub returns-in-None : goal.returns-in-None
returns-in-None c = λ d rest scalar e. let some = encode_some d in absurd (omega (arith, c.in-None.ensures.cases, ap length e, length-append (encode_utf8 d) rest))
