use Rattle.std.proofs.Common.{map}
use Rattle.edb_pure.specs.Keys.{has_key}
use Rattle.edb_lists.proofs.Places.{Left}
use Rattle.edb_lists.proofs.keys.find_key.Given as goal

-- the first of those that are left is the first of all
abbrev pub invariant-loop-at : goal.invariant-loop-at
invariant-loop-at l = Left (has_key l.key l.place) (map (λ t. t.now) l.items) l.at
