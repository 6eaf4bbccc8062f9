use Rattle.std.proofs.Common.{◌≡◌, take}
use Rattle.edb_versions.proofs.versions.Versions.copy.Given as goal

-- copies of those that were read
abbrev pub invariant-loop-pair : goal.invariant-loop-pair
invariant-loop-pair l = l.pairs.items ≡ take l.pair-index l.pair-items
