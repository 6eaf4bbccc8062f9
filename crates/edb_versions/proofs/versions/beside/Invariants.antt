use Rattle.std.proofs.Common.{◌≡◌, drop}
use Rattle.edb_moves.specs.Versions.{version_beside}
use Rattle.edb_versions.proofs.versions.beside.Given as goal

-- none of those that were read has the name
abbrev pub invariant-loop-pair : goal.invariant-loop-pair
invariant-loop-pair l = version_beside l.module (drop l.pair-index l.pairs) ≡ version_beside l.module l.pairs
