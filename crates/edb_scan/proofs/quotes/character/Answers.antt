use Rattle.edb_scan.proofs.QuotedFound.{char_found, no_char}
use Rattle.edb_scan.proofs.quotes.character.Goals as goal

pub returns-in-Some : goal.returns-in-Some
returns-in-Some c = char_found c.args.bytes.now c.in-Some.ensures.0 c.in-Some.after.now c.in-Some.c c.in-Some.ensures.1 c.in-Some.ensures.2

pub returns-in-None : goal.returns-in-None
returns-in-None c = no_char c.args.bytes.now c.in-None.ensures
