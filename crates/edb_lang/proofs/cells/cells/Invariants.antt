use Rattle.std.proofs.Common.{◌≡◌, length}
use Rattle.edb_lang.specs.ListTerms.{list_of}
use Rattle.edb_lang.proofs.cells.cells.Given as goal

-- the elements that are left before the cells that were made
abbrev pub invariant-loop-head : goal.invariant-loop-head
invariant-loop-head l = list_of l.left.items l.list ≡ list_of l.fn.items.items l.fn.tail

abbrev pub decreases-loop-head : goal.decreases-loop-head
decreases-loop-head l = length l.left.items
