use Rattle.std.proofs.Common.{◌≡◌, ◌+◌, length}
use Rattle.std.specs.Iterator.Adapters.{zip_first, zip_second}
use Rattle.std.specs.Slice.Iter.{iter_rest}
use Rattle.edb_lang.specs.Terms.{of_list}
use Rattle.edb_lang.specs.Order.{terms_cmp, captures_cmp}
use Rattle.edb_lang.specs.TermViews.{captures_in}
use Rattle.edb_lang.proofs.term.+compare.Given as goal

abbrev pub invariant-cmp_terms-loop-x : goal.invariant-cmp_terms-loop-x
invariant-cmp_terms-loop-x l = terms_cmp (of_list (iter_rest (zip_first l.x-iterator))) (of_list (iter_rest (zip_second l.x-iterator))) ≡ terms_cmp (of_list l.left) (of_list l.right)

abbrev pub invariant-cmp_captured-loop-x : goal.invariant-cmp_captured-loop-x
invariant-cmp_captured-loop-x l = record {
  rest : captures_cmp (captures_in (iter_rest (zip_first l.x-iterator))) (captures_in (iter_rest (zip_second l.x-iterator))) ≡ captures_cmp (captures_in l.first) (captures_in l.second);
  left : length (iter_rest (zip_first l.x-iterator)) + length l.yielded ≡ length l.first;
  right : length (iter_rest (zip_second l.x-iterator)) + length l.yielded ≡ length l.second;
}
