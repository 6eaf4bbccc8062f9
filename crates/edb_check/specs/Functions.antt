-- The functions of a module, by name and arity, and what may be called without a module's name: a function of the
-- module, or an imported built-in where the module has no function of that name and arity.

use Rattle.std.specs.Prelude.{Bool, ◌||◌, List, map, codes}
use Rattle.std.specs.List.{list_any}
use Rattle.edb_table.specs.Keys.{Key, same_key}
use Rattle.edb_table.specs.Marking.{is_auto}
use Rattle.edb_syntax.specs.Syntax.{FunctionTree}

abbrev pub key_of : FunctionTree → Key
key_of f = (f.name, f.arity)

abbrev pub keys_of : List FunctionTree → List Key
keys_of fs = map key_of fs

-- the module has a function of this name and arity
abbrev pub is_defined : List Key → Key → Bool
is_defined keys k = list_any (same_key k) keys

abbrev pub is_callable : List Key → Key → Bool
is_callable keys k = is_defined keys k || is_auto (codes "erlang", k)
