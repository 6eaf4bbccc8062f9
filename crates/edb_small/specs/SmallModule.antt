-- Which texts are modules of the small language, and of which tree.

use Rattle.std.specs.Prelude.{◌≡◌, ◌≢◌, ℕ, Bool, true, not, ◌||◌, ◌==◌, List, []}
use Rattle.std.specs.List.{list_all}
use Rattle.edb_lang.specs.Syntax.{ModuleTree}
use Rattle.edb_scan.specs.declared.lexeme.Placed.{Placed}
use Rattle.edb_scan.specs.Parting.{AreTokens}
use Rattle.edb_small.specs.Grammar.{written_module, Agrees}
use Rattle.edb_small.specs.Conditions.{is_small_module}

-- no byte begins a comment or a quoted atom: the tokens of the language hold neither `%` nor `'`
abbrev pub is_plain : List ℕ → Bool
is_plain bytes = list_all (λ c. not (c == 37 || c == 39)) bytes

-- a text of at most 1,000,000 bytes whose tokens are those of this tree, which exports something
pub record IsModule (bytes : List ℕ) (m : ModuleTree) : Type 0 where
  pub plain : is_plain bytes ≡ true
  pub tokens : List Placed
  pub scanned : AreTokens bytes tokens
  pub spelled : Agrees tokens (written_module m)
  pub exports : m.exports ≢ []
  pub small : is_small_module m ≡ true
