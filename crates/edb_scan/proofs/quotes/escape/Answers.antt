use Rattle.std.proofs.Common.{[], ◌∷◌, refl, inl, sym}
use Rattle.edb_scan.proofs.EscapeLemmas.{hex_found, no_hex, no_escape}
use Rattle.edb_scan.proofs.quotes.escape.Goals as goal

pub returns-in-Some : goal.returns-in-Some
returns-in-Some c =
    hex_found c.args.bytes.now c.in_ok-letter.rest.now c.in-Some.after.now c.in-Some.ensures.0 c.in_ok-letter.letter.now c.in-Some.c
    c.in_ok-letter.ensures.cases.0 c.if-letter-eq120.true c.in-Some.ensures.1 c.in-Some.ensures.2

pub returns-in-None : goal.returns-in-None
returns-in-None c = no_hex c.args.bytes.now c.in_ok-letter.rest.now c.in_ok-letter.letter.now c.in_ok-letter.ensures.cases.0 c.if-letter-eq120.true c.in-None.ensures

pub returns-in-Some-escaped : goal.returns-in-Some-escaped
returns-in-Some-escaped c =
    (c.in_ok-letter.letter.now ∷ [], c.in_ok-letter.ensures.cases.0, inl (record { letter = c.in_ok-letter.letter.now; cut = refl; value = sym c.in-Some-escaped.ensures }))

pub returns-in-None-escaped : goal.returns-in-None-escaped
returns-in-None-escaped c =
    no_escape c.args.bytes.now c.in_ok-letter.rest.now c.in_ok-letter.letter.now c.in_ok-letter.ensures.cases.0 c.if-letter-eq120.false (sym c.in-None-escaped.ensures)
