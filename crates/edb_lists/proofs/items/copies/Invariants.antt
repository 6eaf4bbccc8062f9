use Rattle.std.proofs.Common.{◌≡◌, map, take}
use Rattle.edb_lists.proofs.items.copies.Given as goal

-- copies of those that were read
abbrev pub invariant-loop-item : goal.invariant-loop-item
invariant-loop-item l = l.made.items ≡ map (λ t. t.now) (take l.item-index l.items)
