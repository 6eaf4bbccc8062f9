use Rattle.std.proofs.Common.{◌≡◌, ◌≤◌, ◌++◌, length, take}
use Rattle.edb_lang.specs.TermViews.{pairs_of}
use Rattle.edb_match.specs.Views.{with_lent}
use Rattle.edb_match.proofs.bindings.all_pairs.Given as goal

abbrev pub invariant-loop-end : goal.invariant-loop-end
invariant-loop-end l = record {
  within : l.end ≤ length l.lent;
  seen : pairs_of l.pairs.items ++ with_lent (take l.end l.lent) l.bindings ≡ with_lent l.lent l.bindings;
}

abbrev pub decreases-loop-end : goal.decreases-loop-end
decreases-loop-end l = l.end
