use Rattle.std.proofs.Common.{◌≡◌, take}
use Rattle.edb_lang.specs.Pairs.{Pairs}
use Rattle.edb_match.specs.Newest.{newest_first}
use Rattle.edb_match.specs.Views.{with_lent}
use Rattle.edb_match.proofs.bindings.copied.Given as goal

abbrev pub invariant-loop-pair : goal.invariant-loop-pair
invariant-loop-pair l = (bs : Pairs) → newest_first l.pairs.items bs ≡ with_lent (take l.pair-index l.lent) bs
