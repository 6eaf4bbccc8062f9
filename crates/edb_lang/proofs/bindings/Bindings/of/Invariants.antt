use Rattle.std.proofs.Common.{◌≡◌, drop}
use Rattle.edb_lang.specs.Pairs.{with_pairs, bindings_of}
use Rattle.edb_lang.specs.TermViews.{pairs_of}
use Rattle.edb_lang.proofs.bindings.Bindings.of.Given as goal

abbrev pub invariant-loop-given : goal.invariant-loop-given
invariant-loop-given l = with_pairs (pairs_of (drop l.given-index l.pairs)) l.bindings ≡ bindings_of (pairs_of l.pairs)
