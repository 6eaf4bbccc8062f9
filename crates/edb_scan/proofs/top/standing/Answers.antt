use Rattle.std.proofs.Common.{sym, ◌∙◌}
use Rattle.edb_scan.proofs.TopLemmas.{string_behind_string}
use Rattle.edb_scan.proofs.top.standing.Goals as goal

pub returns-then-is_string : goal.returns-then-is_string
returns-then-is_string c =
    let found = rw c.in-Some.is at c.in_ok-piece.ensures in
    string_behind_string c.args.behind_string c.args.bytes.now c.in-Some.after.now c.in-Some.piece found.0 c.if-behind_string.true (sym c.is_string.ensures ∙ c.if-is_string.true)

pub returns-in-None : goal.returns-in-None
returns-in-None c = let none = rw c.in-None.is at c.in_ok-piece.ensures in λ after p begins may. none after p begins may.0
