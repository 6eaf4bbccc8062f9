use Rattle.std.proofs.Common.{◌≡◌, ◌+◌, ◌≤◌, max, drop}
use Rattle.edb_lang.specs.Terms as spec
use Rattle.edb_lang.specs.TermViews.{captures_in}
use Rattle.edb_lang.proofs.term.+walk.Given as goal

abbrev pub invariant-walk_captured-loop-pair : goal.invariant-walk_captured-loop-pair
invariant-walk_captured-loop-pair l = record {
  height : max l.height (spec.captures_height (captures_in (drop l.pair-index l.captured))) ≡ spec.captures_height (captures_in l.captured);
  size : l.size + spec.captures_size (captures_in (drop l.pair-index l.captured)) ≡ spec.captures_size (captures_in l.captured);
  low : l.height ≤ l.levels;
  small : l.size ≤ l.room;
}

abbrev pub invariant-walk_terms-loop-term : goal.invariant-walk_terms-loop-term
invariant-walk_terms-loop-term l = record {
  height : max l.height (spec.heights (spec.of_list (drop l.term-index l.terms))) ≡ spec.heights (spec.of_list l.terms);
  size : l.size + spec.sizes (spec.of_list (drop l.term-index l.terms)) ≡ spec.sizes (spec.of_list l.terms);
  low : l.height ≤ l.levels;
  small : l.size ≤ l.room;
}
