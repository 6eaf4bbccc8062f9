-- The built-ins that are no shared acts, by the type of src/.

use Rattle.std.specs.Prelude.{◌≡◌, ◌<◌, true, [], slice_get, unwrap_or}
use Rattle.edb_moves.specs.Calls.{apply_key}
use Rattle.edb_pure.specs.Table.{is_pure}
use Rattle.edb_table.specs.BuiltIns as table
use Rattle.edb_table.specs.BuiltIns.{built_ins}
use Rattle.edb_calls.specs.declared.built_ins.BuiltIn.{BuiltIn}
use Rattle.edb_calls.specs.declared.built_ins.BuiltIn.TheVariants.{ApplyFun, ApplyName, Computes}

-- the module, name and arity
abbrev pub key_of : BuiltIn → table.BuiltIn
key_of ApplyFun = apply_key 2
key_of ApplyName = apply_key 3
key_of (Computes i) = unwrap_or (slice_get built_ins i) ([], ([], 0))

-- an index is that of a built-in that only computes
abbrev pub IsListed : BuiltIn → Type 0
IsListed ApplyFun = Unit {0}
IsListed ApplyName = Unit {0}
IsListed (Computes i) = (i < 79) × (is_pure (key_of (Computes i)) ≡ true)
