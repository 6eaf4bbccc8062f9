-- What a session is given.

use Rattle.std.specs.Prelude.{ℕ, List}
use Rattle.edb_lang.specs.Syntax.{ModuleTree}
use Rattle.edb_event.specs.Books.{Commands}

-- the modules, the commands of each console, the most moves of a slice, and the weight at which a journal is over
pub record Plan : Type 0 where
  pub code : List ModuleTree
  pub commands : Commands
  pub slice_moves : ℕ
  pub weight_limit : ℕ
