use Rattle.std.proofs.Common.{◌≡◌, take}
use Rattle.edb_fill.proofs.lists.is_list_within.Given as goal

abbrev pub invariant-loop-item : goal.invariant-loop-item
invariant-loop-item l = l.copies.items ≡ take l.item-index l.items
