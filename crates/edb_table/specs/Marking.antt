-- How a built-in may be called: without its module's name, in a guard; and whether it is a shared act.
use Rattle.std.specs.Prelude.{◌&&◌, ◌||◌, not, ℕ, Bool, List, [], ◌∷◌, codes, bytes_eq}
use Rattle.std.specs.List.{list_any}
use Rattle.edb_table.specs.Keys.{Key, same_key}
use Rattle.edb_table.specs.BuiltIns.{BuiltIn, erlang_keys, io_keys}

-- of this module, and with one of these keys
abbrev pub is_among : List ℕ → List Key → BuiltIn → Bool
is_among home keys asked = bytes_eq asked.0 home && list_any (same_key asked.1) keys

-- what `erlang` has, but isn't imported
unfoldable pub named_keys : List Key
named_keys = (codes "append_element", 2) ∷ (codes "display", 1) ∷ (codes "send", 2) ∷ []

unfoldable pub guard_keys : List Key
guard_keys =
    (codes "abs", 1) ∷ (codes "element", 2) ∷ (codes "hd", 1) ∷ (codes "is_atom", 1) ∷
    (codes "is_boolean", 1) ∷ (codes "is_function", 1) ∷ (codes "is_function", 2) ∷ (codes "is_integer", 1) ∷
    (codes "is_list", 1) ∷ (codes "is_number", 1) ∷ (codes "is_pid", 1) ∷ (codes "is_reference", 1) ∷
    (codes "is_tuple", 1) ∷ (codes "length", 1) ∷ (codes "max", 2) ∷ (codes "min", 2) ∷
    (codes "self", 0) ∷ (codes "tl", 1) ∷ (codes "tuple_size", 1) ∷ []

-- the acts of `erlang` that other processes or the output see
unfoldable pub act_keys : List Key
act_keys =
    (codes "demonitor", 1) ∷ (codes "demonitor", 2) ∷ (codes "display", 1) ∷ (codes "exit", 2) ∷
    (codes "is_process_alive", 1) ∷ (codes "link", 1) ∷ (codes "make_ref", 0) ∷ (codes "monitor", 2) ∷
    (codes "process_flag", 2) ∷ (codes "register", 2) ∷ (codes "send", 2) ∷ (codes "spawn", 1) ∷
    (codes "spawn", 3) ∷ (codes "spawn_link", 1) ∷ (codes "spawn_link", 3) ∷ (codes "unlink", 1) ∷
    (codes "unregister", 1) ∷ (codes "whereis", 1) ∷ []

-- `erlang`'s built-ins are called without its name, but for those that aren't imported
abbrev pub is_auto : BuiltIn → Bool
is_auto asked = is_among (codes "erlang") erlang_keys asked && not (is_among (codes "erlang") named_keys asked)

-- it may stand in a guard
abbrev pub is_guard : BuiltIn → Bool
is_guard asked = is_among (codes "erlang") guard_keys asked

-- it acts on what processes share: `erlang`'s acts, and what prints
abbrev pub is_shared : BuiltIn → Bool
is_shared asked = is_among (codes "erlang") act_keys asked || is_among (codes "io") io_keys asked
