use Rattle.std.proofs.Common.{◌≡◌, length}
use Rattle.edb_lang.specs.ListTerms.{list_of}
use Rattle.edb_lang.specs.Terms.{nil}
use Rattle.edb_leaves.proofs.generators.gathered_list.Given as goal

abbrev pub invariant-loop-head : goal.invariant-loop-head
invariant-loop-head l = list_of l.left.items l.list ≡ list_of l.fn.items nil

abbrev pub decreases-loop-head : goal.decreases-loop-head
decreases-loop-head l = length l.left.items
