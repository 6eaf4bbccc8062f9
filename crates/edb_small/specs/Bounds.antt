-- Modules within the bounds of a journal: the names are atoms, which have at most 255 characters, and each function has
-- fewer than 2 ^ 32 parameters, so that a journal can have its arity.

use Rattle.std.specs.Prelude.{ℕ, ◌<◌, ◌≤◌, ◌^◌, List, length, chars, All}
use Rattle.edb_lang.specs.Syntax.{FunctionTree, ModuleTree}

abbrev pub IsShort : List ℕ → Type 0
IsShort name = length (chars name) ≤ 255

abbrev pub IsBoundedFunction : FunctionTree → Type 0
IsBoundedFunction g = IsShort g.name × (length g.parameters < 2 ^ 32)

-- the module's name, and each of its functions
abbrev pub IsBounded : ModuleTree → Type 0
IsBounded x = IsShort x.name × All IsBoundedFunction x.functions
