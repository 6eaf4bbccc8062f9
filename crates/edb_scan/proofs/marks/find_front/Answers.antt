use Rattle.std.proofs.Common.{◌++◌, get_or, None, Some, ap, sym, ◌∙◌}
use Rattle.std.proofs.lemmas.Bool.Decides.{Decides-eqb}
use Rattle.std.proofs.lemmas.Slice.Eq.{strip_prefix_is}
use Rattle.edb_scan.proofs.TableLemmas.{listed_at, listed_behind, listed_nowhere, no_longer}
use Rattle.edb_scan.proofs.marks.find_front.Goals as goal

pub loop-spelling-preserved : goal.loop-spelling-preserved
loop-spelling-preserved c = λ text after m e h.
    listed_behind c.args.table.now c.loop-spelling.spelling-index _ text m c.loop-spelling-test.true
    (λ same. strip_prefix_is Decides-eqb c.args.bytes.now (get_or c.args.table.now c.loop-spelling.spelling-index _).0.now None c.in-None.ensures.cases after (e ∙ ap (λ t. t ++ after) (sym same)))
    (c.loop-spelling.invariant text after m e h)

pub returns-in-Some : goal.returns-in-Some
returns-in-Some c = record {
  text = (get_or c.args.table.now c.loop-spelling.spelling-index _).0.now;
  cut = strip_prefix_is Decides-eqb c.args.bytes.now (get_or c.args.table.now c.loop-spelling.spelling-index _).0.now (Some c.in-Some.after) c.in-Some.ensures.cases;
  listed = listed_at c.args.table.now c.loop-spelling.spelling-index _ c.loop-spelling-test.true;
  longest = λ other u n e h. no_longer c.args.table.now c.loop-spelling.spelling-index _ other n c.loop-spelling-test.true c.requires (c.loop-spelling.invariant other u n e h);
}

pub returns : goal.returns
returns c = λ text after m e h. listed_nowhere c.args.table.now c.loop-spelling.spelling-index text m c.loop-spelling-test.false (c.loop-spelling.invariant text after m e h)
