-- Faults, and which of several is the first: that on the least line, and on one line that of the kind that comes first.

use Rattle.std.specs.Prelude.{◌≡◌, ℕ, ◌<◌, ◌≤◌, ◌⊎◌, Bool, true, false, List, [], ◌∷◌}
use Rattle.std.specs.List.{Contains, All}
use Rattle.edb_check.specs.declared.fault.CheckFault.{CheckFault}
use Rattle.edb_check.specs.declared.fault.CheckKind.{CheckKind}
use Rattle.edb_check.specs.declared.fault.CheckKind.TheVariants.{Unbound, Unsafe, Sibling, Float, Undefined, Duplicate, NotExported, BadGuard}

-- the order of the kinds
abbrev pub rank : CheckKind → ℕ
rank Unbound = 0
rank Unsafe = 1
rank Sibling = 2
rank Float = 3
rank Undefined = 4
rank Duplicate = 5
rank NotExported = 6
rank BadGuard = 7

-- the one fault of this line and kind
abbrev pub fault : ℕ → CheckKind → List CheckFault
fault l k = record { line = l; kind = k } ∷ []

-- that fault where the test says so, else none
abbrev pub fault_if : Bool → ℕ → CheckKind → List CheckFault
fault_if true l k = fault l k
fault_if false l k = []

-- no fault that comes after the other
abbrev pub NoLater : CheckFault → CheckFault → Type 0
NoLater f g = (f.line < g.line) ⊎ ((f.line ≡ g.line) × (rank f.kind ≤ rank g.kind))

-- one of the faults, and none of them comes before it
pub record IsFirst (f : CheckFault) (fs : List CheckFault) : Type 0 where
  pub there : Contains fs f
  pub first : All (NoLater f) fs
