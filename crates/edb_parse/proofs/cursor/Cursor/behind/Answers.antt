use Rattle.edb_parse.specs.Cursors.{toks}
use Rattle.edb_parse.proofs.Tags.{behind_here}
use Rattle.edb_parse.proofs.cursor.Cursor.behind.Goals as goal

pub returns-in-Mark-clause-finds : goal.returns-in-Mark-clause-finds
returns-in-Mark-clause-finds c =
    behind_here c.args.mark c.in-Mark.found _ c.in_ok-token.token.now (toks c.in_ok-token.rest) (toks c.args.self) c.in_ok-token.ensures.first c.in-Mark.is c.if-mark-found.true
