-- What a Stop and an Enter tell of their process.

use Rattle.std.specs.Prelude.{◌≡◌, ℕ, List, Some}
use Rattle.edb_model.specs.Running.{Run}
use Rattle.edb_model.specs.Plain.{Plain, running_at}
use Rattle.edb_rules.specs.Slices.{level_in}
use Rattle.edb_rules.specs.SliceEnds.{body_in}

-- the level is that of the innermost Body of what process p has to do
pub record TellsLevel (s : Plain) (p level : ℕ) : Type 0 where
  pub running : Run
  pub lives : running_at s p ≡ Some running
  pub same : level ≡ level_in running

-- the module, the name and the arity are those of the innermost Body of what process p has to do
pub record TellsCall (s : Plain) (p : ℕ) (m n : List ℕ) (a : ℕ) : Type 0 where
  pub running : Run
  pub lives : running_at s p ≡ Some running
  pub home : m ≡ (body_in running).home
  pub name : n ≡ (body_in running).name
  pub arity : a ≡ (body_in running).arity
