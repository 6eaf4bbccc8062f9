use Rattle.std.proofs.Common.{arith}
use Rattle.edb_cmds.proofs.NumberLaws.{digit_here, front_small, one_digit}
use Rattle.edb_cmds.proofs.fields.number_of.Goals as goal

pub returns-in_default : goal.returns-in_default
returns-in_default c = λ n h.
    c.in_default.ensures.value (rw c.from.ensures (digit_here c.args.word.now c.loop-byte.byte-index h.digits.1 c.loop-byte-test.true))

pub overflow_mul-value : goal.overflow_mul-value
overflow_mul-value c =
    let small = front_small c.args.word.now c.loop-byte.byte-index c.loop-byte.value c.loop-byte.invariant.digits (omega arith) c.loop-byte.invariant.value in
    omega arith

pub overflow_add-value : goal.overflow_add-value
overflow_add-value c =
    let small = front_small c.args.word.now c.loop-byte.byte-index c.loop-byte.value c.loop-byte.invariant.digits (omega arith) c.loop-byte.invariant.value in
    omega (arith, c.in-Some.ensures.value)

pub loop-byte-preserved : goal.loop-byte-preserved
loop-byte-preserved c =
    let more = one_digit c.args.word.now c.loop-byte.byte-index c.loop-byte.value c.from.result c.in-Some.digit c.loop-byte-test.true c.loop-byte.invariant.digits c.loop-byte.invariant.value c.from.ensures c.in-Some.ensures.value in
    record { digits = more.0; value = more.1 }
