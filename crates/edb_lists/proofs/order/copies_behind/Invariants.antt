use Rattle.std.proofs.Common.{◌≡◌, map, take}
use Rattle.edb_lists.proofs.order.copies_behind.Given as goal

-- copies of those that were read
abbrev pub invariant-loop-pair : goal.invariant-loop-pair
invariant-loop-pair l = l.made.items ≡ map (λ p. p.1.now) (take l.pair-index l.pairs)
