-- Modules within bounds: each name is an atom, which has at most 255 characters, and no arity is above 255.

use Rattle.std.specs.Prelude.{ℕ, ◌≤◌, List, length, chars, All}
use Rattle.edb_syntax.specs.declared.modules.Export.{Export}
use Rattle.edb_syntax.specs.Syntax.{FunctionTree, ModuleTree}

-- no longer than an atom may be; a character is a code point
abbrev pub IsShort : List ℕ → Type 0
IsShort name = length (chars name) ≤ 255

abbrev pub IsBoundedExport : Export → Type 0
IsBoundedExport e = IsShort e.name × (e.arity ≤ 255)

abbrev pub IsBoundedFunction : FunctionTree → Type 0
IsBoundedFunction f = IsShort f.name × (f.arity ≤ 255)

-- the module's name, each of its exports, and each of its functions
abbrev pub IsBounded : ModuleTree → Type 0
IsBounded m = IsShort m.name × All IsBoundedExport m.exports × All IsBoundedFunction m.functions
