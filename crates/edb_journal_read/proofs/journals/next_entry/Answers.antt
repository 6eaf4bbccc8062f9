use Rattle.std.proofs.Common.{inl, inr, ◌+◌, ◌<◌, length, arith}
use Rattle.std.proofs.lemmas.Bool.Decides.{nat_tests}
use Rattle.edb_journal.specs.Accepted.{most_bytes}
use Rattle.edb_journal_read.proofs.JournalLaws.{passes_limit}
use Rattle.edb_journal_read.proofs.journals.next_entry.Goals as goal

pub returns-then-not-is_short-clause-none : goal.returns-then-not-is_short-clause-none
returns-then-not-is_short-clause-none c =
    let long : most_bytes + length c.in-Ok.read.1.now < c.args.total = grind (arith, nat_tests, c.is_short.ensures, c.if-not-is_short.true) in
    passes_limit c.args.total c.args.heavy c.args.bytes.now c.in-Ok.read.0 c.in-Ok.read.1.now c.in-Ok.ensures.found (inr long)

pub returns-in-None-clause-none : goal.returns-in-None-clause-none
returns-in-None-clause-none c =
    passes_limit c.args.total c.args.heavy c.args.bytes.now c.in-Ok.read.0 c.in-Ok.read.1.now c.in-Ok.ensures.found (inl c.in-None.ensures)
