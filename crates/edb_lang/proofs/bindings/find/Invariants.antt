use Rattle.std.proofs.Common.{◌≡◌, drop}
use Rattle.edb_lang.specs.Pairs.{bound}
use Rattle.edb_lang.specs.TermViews.{pairs_of}
use Rattle.edb_lang.proofs.bindings.find.Given as goal

abbrev pub invariant-loop-pair : goal.invariant-loop-pair
invariant-loop-pair l = bound l.name (pairs_of (drop l.pair-index l.pairs)) ≡ bound l.name (pairs_of l.pairs)
