use Rattle.std.proofs.Common.{◌≡◌, ◌++◌, take, drop}
use Rattle.edb_lang.specs.Pairs.{with_pair}
use Rattle.edb_lang.specs.Terms.{Datum}
use Rattle.edb_lang.specs.TermViews.{pairs_of}
use Rattle.edb_lang.proofs.bindings.place_of.Given as goal

abbrev pub invariant-loop-place : goal.invariant-loop-place
invariant-loop-place l = (t : Datum) → pairs_of (take l.place l.pairs) ++ with_pair l.name t (pairs_of (drop l.place l.pairs)) ≡ with_pair l.name t (pairs_of l.pairs)
