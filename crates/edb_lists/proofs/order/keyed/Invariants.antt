use Rattle.edb_lists.proofs.OrderWalks.{Paired}
use Rattle.edb_lists.proofs.order.keyed.Given as goal

-- the pairs so far and those of the elements that are left are all
abbrev pub invariant-loop-at : goal.invariant-loop-at
invariant-loop-at l = Paired l.place l.items l.at l.pairs.items
