-- What a walk of the checker does, by the rules: it puts what a part binds, and the part's names, behind those that it
-- has, and keeps the first of the faults that it has met.

use Rattle.std.specs.Prelude.{◌≡◌, ℕ, Bool, ◌&&◌, ◌||◌, ◌==◌, nat_lt, if◌then◌else◌, List, [], ◌∷◌, ◌++◌, Option, None, Some}
use Rattle.edb_check.specs.declared.fault.CheckFault.{CheckFault}
use Rattle.edb_check.specs.declared.walk.Walk.{Walk}
use Rattle.edb_check.specs.Faults.{rank}
use Rattle.edb_check.specs.Scopes.{Scope}

-- a fault comes before another
abbrev pub before : CheckFault → CheckFault → Bool
before f g = nat_lt f.line g.line || (f.line == g.line && nat_lt (rank f.kind) (rank g.kind))

-- the first fault so far, after one more
abbrev pub better : Option CheckFault → CheckFault → Option CheckFault
better None f = Some f
better (Some g) f = Some (if before f g then f else g)

-- and after more of them
abbrev pub least : Option CheckFault → List CheckFault → Option CheckFault
least o [] = o
least o (f ∷ fs) = least (better o f) fs

-- What a part of a module adds: what it newly binds, the names that it has in common with its surroundings, and its
-- faults.
pub record Part : Type 0 where
  pub binds : Scope
  pub names : List (List ℕ)
  pub faults : List CheckFault

abbrev pub part : Scope → List (List ℕ) → List CheckFault → Part
part bs xs fs = record { binds = bs; names = xs; faults = fs }

-- faults alone
abbrev pub only : List CheckFault → Part
only fs = part [] [] fs

abbrev pub followed_by : Part → Part → Part
followed_by p q = part (p.binds ++ q.binds) (p.names ++ q.names) (p.faults ++ q.faults)

-- from the old walk to the new one this part was gone through
pub record Walks (old new : Walk) (p : Part) : Type 0 where
  pub scope : new.scope ≡ old.scope ++ p.binds
  pub names : new.names ≡ old.names ++ p.names
  pub first : new.first ≡ least old.first p.faults

-- with what is left the walk comes to what the whole adds
pub record Goes (old now : Walk) (whole rest : Part) : Type 0 where
  pub scope : now.scope ++ rest.binds ≡ old.scope ++ whole.binds
  pub names : now.names ++ rest.names ≡ old.names ++ whole.names
  pub first : least now.first rest.faults ≡ least old.first whole.faults
