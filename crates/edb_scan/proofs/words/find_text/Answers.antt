use Rattle.std.proofs.Common.{get_or}
use Rattle.std.proofs.lemmas.Bool.{both_ways}
use Rattle.std.proofs.lemmas.Bool.Decides.{Decides-eqb}
use Rattle.std.proofs.lemmas.Slice.Eq.{slice_eq-Decides}
use Rattle.edb_scan.proofs.TableLemmas.{listed_at, listed_behind, listed_nowhere}
use Rattle.edb_scan.proofs.words.find_text.Goals as goal

pub loop-spelling-preserved : goal.loop-spelling-preserved
loop-spelling-preserved c = λ m h.
    listed_behind c.args.table.now c.loop-spelling.spelling-index _ c.args.text.now m c.loop-spelling-test.true
    (λ same. both_ways c.eq.result c.if-eq.false ((slice_eq-Decides Decides-eqb _ _ _ c.eq.ensures).1 same))
    (c.loop-spelling.invariant m h)

pub returns-then-eq : goal.returns-then-eq
returns-then-eq c =
    let here = listed_at c.args.table.now c.loop-spelling.spelling-index _ c.loop-spelling-test.true in
    rw (← (slice_eq-Decides Decides-eqb (get_or c.args.table.now c.loop-spelling.spelling-index _).0.now c.args.text.now c.eq.result c.eq.ensures).0 c.if-eq.true) here

pub returns : goal.returns
returns c = λ m h. listed_nowhere c.args.table.now c.loop-spelling.spelling-index c.args.text.now m c.loop-spelling-test.false (c.loop-spelling.invariant m h)
