use Rattle.std.proofs.Common.{◌≡◌, ◌∙◌, ◌++◌, take, arith, ap, length, length-append}
use Rattle.std.specs.Prelude.{encode_utf8}
use Rattle.edb_scan.proofs.CharLemmas.{encode_some, front_text, front_char, sole_char}
use Rattle.edb_scan.proofs.quotes.char_of_len.Goals as goal

pub returns-then-bytes-len : goal.returns-then-bytes-len
returns-then-bytes-len c = λ d rest scalar e l. absurd (omega (arith, ap length e, length-append (encode_utf8 d) rest))

pub returns-else-len_utf8-len : goal.returns-else-len_utf8-len
returns-else-len_utf8-len c = λ d rest scalar e l.
    let next = c.in-Some.ensures.steps.0 in
    let chars = c.chars.ensures.rest in
    let text = c.in-Ok.ensures.cases.0 in
    let front = c.split_at.ensures.front in
    let value = c.len_utf8.ensures.value in
    let parts : take c.args.len c.args.bytes.now ≡ encode_utf8 c.in-Some.c ++ c.next.new.self.rest.now = cc in
    c.if-len_utf8-len.false (value ∙ sole_char c.args.bytes.now rest c.next.new.self.rest.now d c.in-Some.c c.args.len e l parts)

pub returns-in-None : goal.returns-in-None
returns-in-None c = λ d rest scalar e l.
    let some = encode_some d in
    absurd (omega (arith, c.in-None.ensures.steps.0, ap length c.chars.ensures.rest, ap length c.in-Ok.ensures.cases.0, ap length c.split_at.ensures.front, ap length (front_char c.args.bytes.now rest d c.args.len e l)))

pub returns-in-Err : goal.returns-in-Err
returns-in-Err c = λ d rest scalar e l. c.in-Err.ensures.cases.0 (rw c.split_at.ensures.front (front_text c.args.bytes.now rest d c.args.len scalar e l))
