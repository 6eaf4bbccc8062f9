-- What a machine knows of the place of a hole.

use Rattle.std.specs.Prelude.{◌≡◌, ℕ, List, Some, slice_get}
use Rattle.edb_moves.specs.Running.{Info}
use Rattle.edb_moves.specs.Going.{Place}

-- the process, and the innermost Body: its level, its bindings, its module and version
pub record Sees (me : ℕ) (i : Info) (p : Place) : Type 0 where
  pub process : p.me ≡ me
  pub level : p.level ≡ i.level
  pub bindings : p.bindings ≡ i.bindings
  pub home : slice_get p.bodies 0 ≡ Some (i.home, i.version)
