use Rattle.std.proofs.Common.{arith}
use Rattle.edb_parse.specs.Cursors.{toks}
use Rattle.edb_parse.proofs.LiteralTies.{list_refused}
use Rattle.edb_parse.proofs.literals.list_of.Goals as goal

pub returns-then-len-gt-MOST_HIGH-clause-gives : goal.returns-then-len-gt-MOST_HIGH-clause-gives
returns-then-len-gt-MOST_HIGH-clause-gives c =
    list_refused c.args.elements.items c.args.tail (toks c.args.rest) (omega (arith, c.if-len-gt-MOST_HIGH.true, c.len.ensures))

pub returns-then-len-height-gt-MOST_HIGH-clause-gives : goal.returns-then-len-height-gt-MOST_HIGH-clause-gives
returns-then-len-height-gt-MOST_HIGH-clause-gives c =
    list_refused c.args.elements.items c.args.tail (toks c.args.rest) (omega (arith, c.if-len-height-gt-MOST_HIGH.true, c.len-2.ensures, c.height.ensures))
