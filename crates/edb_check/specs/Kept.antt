-- A set of keys as the code has it, and the list of keys for which it stands.

use Rattle.std.specs.Prelude.{◌≡◌, ℕ, List}
use Rattle.std.specs.Ordering.{nat_cmp, ordering_then}
use Rattle.std.specs.declared.cmp.Ordering.{Ordering}
use Rattle.std.specs.Cmp.Lexicographic.{slice_cmp}
use Rattle.std.specs.BTreeSet.{BTreeSet, contains}
use denote.Bor.{Bor}
use Rattle.edb_table.specs.Keys.{Key}
use Rattle.edb_check.specs.Functions.{is_defined}

abbrev pub CodeKey : Type 0
CodeKey = Bor (List ℕ) × ℕ

abbrev pub code_cmp : CodeKey → CodeKey → Ordering
code_cmp k q = ordering_then (slice_cmp nat_cmp k.0.now q.0.now) (nat_cmp k.1 q.1)

-- the set has the keys of the list, and no others
abbrev pub Kept : BTreeSet CodeKey → List Key → Type 0
Kept set keys = (q : CodeKey) → contains code_cmp set q ≡ is_defined keys (q.0.now, q.1)
