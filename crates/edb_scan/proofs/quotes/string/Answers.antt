use Rattle.std.proofs.Common.{◌∙◌, ap}
use Rattle.std.specs.Prelude.{chars}
use Rattle.edb_scan.proofs.QuotedFound.{string_found, no_string, characters}
use Rattle.edb_scan.proofs.quotes.string.Goals as goal

pub returns-in_ok-points-in-Some : goal.returns-in_ok-points-in-Some
returns-in_ok-points-in-Some c =
    let found = rw c.in-Some.is at c.in_ok-text.ensures in
    let text = c.in_ok-points-in-Some.ensures ∙ ap chars (c.as_str.ensures.value ∙ found.1) ∙ characters 34 c.args.bytes.now c.in-Some.after.now found.0 found.2 in
    rw text (string_found c.args.bytes.now c.in-Some.after.now found.0 found.2)

pub returns-in-None : goal.returns-in-None
returns-in-None c = let none = rw c.in-None.is at c.in_ok-text.ensures in no_string c.args.bytes.now none
