use Rattle.edb_scan.specs.Numerals.{number}
use Rattle.edb_scan.proofs.NumeralsFound.{float_found, based_begins, decimal_begins, integer_finds, digits_begin}
use Rattle.edb_scan.proofs.numerals.numeral.Goals as goal

pub returns-in-Some-fraction : goal.returns-in-Some-fraction
returns-in-Some-fraction c = float_found c.args.bytes.now c.in-Some.whole.now c.in-Some.tail.now c.in-Some-fraction.after.now c.requires c.in-Some.ensures c.in-Some-fraction.ensures

pub returns-in-Some-based : goal.returns-in-Some-based
returns-in-Some-based c =
    integer_finds c.args.bytes.now c.in-Some-based.after.now (number c.in-Some-based.base c.in-Some-based.text.now) c.integer.result
    (based_begins c.args.bytes.now c.in-Some.whole.now c.in-Some.tail.now c.in-Some-based.text.now c.in-Some-based.after.now c.in-Some-based.base
    c.requires c.in-Some.ensures c.in-None-fraction.ensures c.in-Some-based.ensures.0 c.in-Some-based.ensures.1)
    c.integer.ensures

pub returns-in-None-based : goal.returns-in-None-based
returns-in-None-based c =
    integer_finds c.args.bytes.now c.in-Some.tail.now (number 10 c.in-Some.whole.now) c.integer-in-None-based.result
    (decimal_begins c.args.bytes.now c.in-Some.whole.now c.in-Some.tail.now c.requires c.in-Some.ensures c.in-None-fraction.ensures c.in-None-based.ensures)
    c.integer-in-None-based.ensures

pub returns-in-None : goal.returns-in-None
returns-in-None c = absurd (digits_begin c.args.bytes.now c.requires c.in-None.ensures)
