use Rattle.std.proofs.Common.{[], ◌∷◌, arith}
use Rattle.std.proofs.lemmas.Bool.{lt-ltb}
use Rattle.std.specs.Char.{is_digit, digit_value}
use Rattle.edb_scan.proofs.DigitRuns.{digits_go_on}
use Rattle.edb_scan.proofs.numerals.digits.Goals as goal

pub loop-after-init : goal.loop-after-init
loop-after-init c =
    (c.in_ok-first.first.now ∷ [], c.in_ok-first.ensures.cases.0, lt-ltb (digit_value c.in_ok-first.first.now) c.args.base (omega arith))

pub loop-after-preserved : goal.loop-after-preserved
loop-after-preserved c =
    digits_go_on (λ x. is_digit x c.args.base) c.args.bytes.now c.loop-after.invariant.0 c.loop-after.rest.now c.in-Some.after.now c.loop-after.invariant.1 c.loop-after.invariant.2 c.in-Some.ensures
