-- A version, found among the modules that have the name.

use Rattle.std.specs.Prelude.{ℕ, suc, zero, List, Option, None}
use Rattle.std.specs.List.{filter, slice_get}
use Rattle.edb_syntax.specs.Syntax.{ModuleTree}
use Rattle.edb_program.specs.Names.{name_cmp, module_name}
use Rattle.edb_units.specs.Orders.{has}

-- the k-th of those with this name; versions are counted from 1
abbrev pub version_among : List ModuleTree → List ℕ → ℕ → Option ModuleTree
version_among xs m zero = None
version_among xs m (suc k) = slice_get (filter (has name_cmp module_name m) xs) k
