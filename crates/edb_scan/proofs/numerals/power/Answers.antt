use Rattle.edb_scan.proofs.FloatLemmas.{power_found, no_power}
use Rattle.edb_scan.proofs.numerals.power.Goals as goal

pub returns-in-Some : goal.returns-in-Some
returns-in-Some c =
    power_found c.args.bytes.now c.in_ok-letter.rest.now c.without_sign.result.now c.in-Some.field-0-0.now c.in-Some.after.now c.in_ok-letter.letter.now
    c.in_ok-letter.ensures.cases.0 (c.is_e.ensures.0 c.if-not-is_e.false) c.without_sign.ensures c.in-Some.ensures

pub returns-in-None : goal.returns-in-None
returns-in-None c =
    no_power c.args.bytes.now c.in_ok-letter.rest.now c.without_sign.result.now c.in_ok-letter.letter.now c.in_ok-letter.ensures.cases.0 c.without_sign.ensures c.in-None.ensures
