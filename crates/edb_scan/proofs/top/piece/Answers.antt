use Rattle.std.proofs.Common.{sym}
use Rattle.edb_scan.proofs.TopLemmas.{headed, space_found, percent_of, quote_of, tick_of, dollar_of, nothing_in_empty}
use Rattle.edb_scan.proofs.top.piece.Goals as goal

pub returns-in-Space : goal.returns-in-Space
returns-in-Space c = space_found c.args.bytes.now c.in-Some.rest.now c.in-Some.first.now c.in-Some.ensures.cases.0 (sym c.in-Space.ensures)

pub returns-in-Percent : goal.returns-in-Percent
returns-in-Percent c = rw (headed c.args.bytes.now c.in-Some.rest.now c.in-Some.first.now 37 c.in-Some.ensures.cases.0 (percent_of c.in-Some.first.now (sym c.in-Percent.ensures))) c.comment.ensures

pub returns-in-Quote : goal.returns-in-Quote
returns-in-Quote c = rw (headed c.args.bytes.now c.in-Some.rest.now c.in-Some.first.now 34 c.in-Some.ensures.cases.0 (quote_of c.in-Some.first.now (sym c.in-Quote.ensures))) c.string.ensures

pub returns-in-Tick : goal.returns-in-Tick
returns-in-Tick c = rw (headed c.args.bytes.now c.in-Some.rest.now c.in-Some.first.now 39 c.in-Some.ensures.cases.0 (tick_of c.in-Some.first.now (sym c.in-Tick.ensures))) c.quoted_atom.ensures

pub returns-in-Dollar : goal.returns-in-Dollar
returns-in-Dollar c = rw (headed c.args.bytes.now c.in-Some.rest.now c.in-Some.first.now 36 c.in-Some.ensures.cases.0 (dollar_of c.in-Some.first.now (sym c.in-Dollar.ensures))) c.character.ensures

pub returns-in-None : goal.returns-in-None
returns-in-None c = nothing_in_empty c.args.bytes.now c.in-None.ensures.cases
