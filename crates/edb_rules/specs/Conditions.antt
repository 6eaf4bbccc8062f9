-- Conditions of breakpoints.

use Rattle.std.specs.Prelude.{ℕ, Bool, false, List}
use Rattle.edb_lang.specs.Syntax.{ModuleTree}
use Rattle.edb_model.specs.Running.{Run}

-- what asking a condition comes to: how many moves it takes, and whether the condition holds
pub record Asked : Type 0 where
  pub moves : ℕ
  pub holds : Bool

-- A condition, by its module and function, asked of process p before an expression. No command gives a breakpoint a
-- condition yet, so none is ever asked; what stands here takes no moves and doesn't hold.
abbrev pub ask : List ModuleTree → List (List ℕ × ℕ) → ℕ → Run → List ℕ × List ℕ → Asked
ask code versions p t condition = record { moves = 0; holds = false }
