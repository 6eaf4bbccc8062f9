use Rattle.std.proofs.Common.{inl, inr}
use Rattle.edb_scan.proofs.EscapeLemmas.{no_plain}
use Rattle.edb_scan.proofs.quotes.plain.Goals as goal
use Rattle.edb_scan.proofs.quotes.plain.Goals.{else-c-quote-via-then-c-quote+else-c-ne92, else-c-quote-via-else-c-quote}

pub returns-else-c-quote : goal.returns-else-c-quote
returns-else-c-quote c =
    no_plain c.args.quote c.args.bytes.now c.in-Some.after.now c.in-Some.c c.in-Some.ensures.1
    (elim c.else-c-quote.branch [ else-c-quote-via-then-c-quote+else-c-ne92 w ↦ inr w.if-c-ne92.false | else-c-quote-via-else-c-quote w ↦ inl w.if-c-quote.false ])
