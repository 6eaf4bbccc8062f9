use Rattle.std.proofs.Common.{map}
use Rattle.edb_pure.specs.Truths.{same_term}
use Rattle.edb_lists.proofs.Places.{Left}
use Rattle.edb_lists.proofs.search.first.Given as goal

-- the first of those that are left is the first of all
abbrev pub invariant-loop-place : goal.invariant-loop-place
invariant-loop-place l = Left (same_term l.wanted) (map (λ t. t.now) l.items) l.place
