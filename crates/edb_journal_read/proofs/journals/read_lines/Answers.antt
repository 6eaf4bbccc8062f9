use Rattle.std.proofs.Common.{◌≡◌, ℕ, ◌+◌, ◌<◌, ◌++◌, List, length, sym, ap, ◌∙◌, subst, arith}
use Rattle.std.proofs.lemmas.Bool.Decides.{nat_tests}
use Rattle.edb_event.specs.declared.entry.Entry.{Entry}
use Rattle.edb_event.specs.Weights.{weight, weight_of}
use Rattle.edb_journal.specs.Accepted.{IsAccepted}
use Rattle.edb_journal.specs.Texts.{journal_text}
use Rattle.edb_journal_read.specs.Entries.{IsNext, NoneIsNext, Explains}
use Rattle.edb_journal_read.specs.declared.journals.JournalError.{JournalError}
use Rattle.edb_journal_read.proofs.EntryLaws.{shorter}
use Rattle.edb_journal_read.proofs.JournalLaws.{text_on, accepted_on, weight_last, explained}
use Rattle.edb_journal_read.proofs.journals.read_lines.Goals as goal

pub loop-rest-smaller : goal.loop-rest-smaller
loop-rest-smaller c = shorter c.in-Ok.entry c.loop-rest.rest.now c.in-Ok.after.now c.in-Ok.ensures.found.first.parts

pub loop-rest-preserved : goal.loop-rest-preserved
loop-rest-preserved c =
    let es = c.loop-rest.journal.entries in
    let next = c.in-Ok.ensures.found in
    let pushed = c.in_ok-push-in-Ok.ensures.ok in
    let before = c.loop-rest.invariant in
    record {
      text =
          subst (λ (new : List Entry). c.args.bytes.now ≡ journal_text new ++ c.in-Ok.after.now) (sym pushed)
          (text_on es c.in-Ok.entry c.args.bytes.now c.loop-rest.rest.now c.in-Ok.after.now before.text next.first.parts);
      accepted =
          subst (λ (new : List Entry). IsAccepted new) (sym pushed)
          (accepted_on es c.in-Ok.entry c.args.bytes.now c.loop-rest.rest.now c.in-Ok.after.now c.in-Ok.more before.text before.accepted
          (subst (λ (n : ℕ). IsNext (length c.args.bytes.now) n c.loop-rest.rest.now c.in-Ok.entry c.in-Ok.more c.in-Ok.after.now) before.heavy next));
      heavy = next.weighs ∙ ap (λ n. n + weight_of c.in-Ok.entry) before.heavy ∙ sym (weight_last es c.in-Ok.entry) ∙ ap weight (sym pushed);
      light = next.light;
    }

pub returns-in-Err-clause-fault : goal.returns-in-Err-clause-fault
returns-in-Err-clause-fault c =
    let before = c.loop-rest.invariant in
    let some : 0 < length c.loop-rest.rest.now = grind (arith, nat_tests, c.loop-rest-test.true, c.is_empty.ensures) in
    let none = subst (λ (n : ℕ). NoneIsNext (length c.args.bytes.now) n c.loop-rest.rest.now c.in-Err.error) before.heavy c.in-Err.ensures.none in
    subst (λ (why : JournalError). Explains c.args.bytes.now why) (sym c.stopped.ensures)
    (explained c.loop-rest.journal.entries c.args.bytes.now c.loop-rest.rest.now c.in-Err.error before.text before.accepted
    (λ empty. let n = ap length empty in omega (arith, some, n)) none)
