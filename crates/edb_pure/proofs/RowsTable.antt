-- The table of answers beside the tables of built-ins.

use Rattle.std.proofs.Common.{◌≡◌, Bool, not, ◌&&◌, map, length, filter, bytes_eq, codes, refl}
use Rattle.edb_table.specs.BuiltIns.{BuiltIn, built_ins, erlang_keys, int_keys, io_keys, lists_keys}
use Rattle.edb_table.specs.Marking.{is_shared, act_keys}
use Rattle.edb_pure.specs.Table.{Row, rows}

-- what becomes a call, and has no answer of its own
abbrev is_apply : BuiltIn → Bool
is_apply asked = bytes_eq asked.0 (codes "erlang") && bytes_eq asked.1.0 (codes "apply")

-- The rows are the built-ins that are no shared acts, in their order, but for `apply`.
rows_are_pure : map (λ (r : Row). r.key) rows ≡ filter (λ asked. not (is_shared asked) && not (is_apply asked)) built_ins
unfolding rows erlang_keys int_keys io_keys lists_keys act_keys
rows_are_pure = refl

fifty_seven_rows : length rows ≡ 57
unfolding rows
fifty_seven_rows = refl
