-- Lemmas that the whole crate's proofs may use.

use Rattle.std.specs.Prelude.{ℕ, List, [], ◌∷◌, ◌++◌, None, Some, if◌then◌else◌}
use Rattle.std.proofs.Common.{◌≡◌, Bool, true, false, Option, refl}
use Rattle.edb_check.specs.declared.status.Status.{Status}
use Rattle.std.proofs.lemmas.List.{append-nil, append_assoc}
use Rattle.edb_lang.specs.TermText.{same_name}
use Rattle.edb_check.specs.declared.fault.CheckFault.{CheckFault}
use Rattle.edb_check.specs.Walking.{better, least}
use Rattle.edb_check.specs.Scopes.{Scope, Binding, first_of_two, lookup}

-- what was bound last counts
pub lookup-push : (x : List ℕ) (bs : Scope) (b : Binding) → lookup x (bs ++ b ∷ []) ≡ (if same_name b.name x then Some b.status else lookup x bs)
lookup-push x [] b = refl
lookup-push x (d ∷ bs) b = rw (lookup-push x bs b) (first (same_name b.name x) (lookup x bs) (if same_name d.name x then Some d.status else None))
  where
    first : (c : Bool) (o p : Option Status) → first_of_two (if c then Some b.status else o) p ≡ (if c then Some b.status else first_of_two o p)
    first true o p = refl
    first false o p = refl

-- faults one after the other, and then more
pub least-append : (o : Option CheckFault) (fs gs : List CheckFault) → least o (fs ++ gs) ≡ least (least o fs) gs
least-append o [] gs = refl
least-append o (f ∷ fs) gs = least-append (better o f) fs gs

pub ruleset walking = (lookup-push, least-append, append-nil, append_assoc)
