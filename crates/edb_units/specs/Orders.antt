-- A list in the order of its elements' keys, in which a search may halve.

use Rattle.std.specs.Prelude.{◌≡◌, Bool, List}
use Rattle.std.specs.declared.cmp.Ordering.{Ordering}
use Rattle.std.specs.Ordering.{is_eq}
use Rattle.std.specs.List.{filter}
use Rattle.std.specs.List.Sorted.{IsSortedByKey}

-- whether this is the key of an element
abbrev pub has : {X K : Type 0} → (K → K → Ordering) → (X → K) → K → X → Bool
has cmp key k x = is_eq (cmp (key x) k)

-- The keys ascend, and those elements that have one key are the same as in the list, in the same order.
pub record IsInOrder {X K : Type 0} (cmp : K → K → Ordering) (key : X → K) (list ordered : List X) : Type 0 where
  pub ascends : IsSortedByKey key cmp ordered
  pub alike : (k : K) → filter (has cmp key k) ordered ≡ filter (has cmp key k) list
