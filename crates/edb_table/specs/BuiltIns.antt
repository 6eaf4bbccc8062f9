-- The built-ins: the names and arities of each module's, in the order of its table, and all of them.
use Rattle.std.specs.Prelude.{◌&&◌, ℕ, Bool, List, [], ◌∷◌, ◌++◌, map, codes, Option, position, bytes_eq}
use Rattle.edb_table.specs.Keys.{Key, same_key}

unfoldable pub erlang_keys : List Key
erlang_keys =
    (codes "abs", 1) ∷ (codes "append_element", 2) ∷ (codes "apply", 2) ∷ (codes "apply", 3) ∷
    (codes "atom_to_list", 1) ∷ (codes "demonitor", 1) ∷ (codes "demonitor", 2) ∷ (codes "display", 1) ∷
    (codes "element", 2) ∷ (codes "error", 1) ∷ (codes "exit", 1) ∷ (codes "exit", 2) ∷
    (codes "hd", 1) ∷ (codes "integer_to_list", 1) ∷ (codes "is_atom", 1) ∷ (codes "is_boolean", 1) ∷
    (codes "is_function", 1) ∷ (codes "is_function", 2) ∷ (codes "is_integer", 1) ∷ (codes "is_list", 1) ∷
    (codes "is_number", 1) ∷ (codes "is_pid", 1) ∷ (codes "is_process_alive", 1) ∷ (codes "is_reference", 1) ∷
    (codes "is_tuple", 1) ∷ (codes "length", 1) ∷ (codes "link", 1) ∷ (codes "list_to_atom", 1) ∷
    (codes "list_to_integer", 1) ∷ (codes "list_to_tuple", 1) ∷ (codes "make_ref", 0) ∷ (codes "max", 2) ∷
    (codes "min", 2) ∷ (codes "monitor", 2) ∷ (codes "process_flag", 2) ∷ (codes "register", 2) ∷
    (codes "self", 0) ∷ (codes "send", 2) ∷ (codes "setelement", 3) ∷ (codes "spawn", 1) ∷
    (codes "spawn", 3) ∷ (codes "spawn_link", 1) ∷ (codes "spawn_link", 3) ∷ (codes "throw", 1) ∷
    (codes "tl", 1) ∷ (codes "tuple_size", 1) ∷ (codes "tuple_to_list", 1) ∷ (codes "unlink", 1) ∷
    (codes "unregister", 1) ∷ (codes "whereis", 1) ∷ []

unfoldable pub int_keys : List Key
int_keys = (codes "get_binding", 2) ∷ []

unfoldable pub io_keys : List Key
io_keys = (codes "format", 1) ∷ (codes "format", 2) ∷ []

unfoldable pub lists_keys : List Key
lists_keys =
    (codes "append", 1) ∷ (codes "append", 2) ∷ (codes "delete", 2) ∷ (codes "duplicate", 2) ∷
    (codes "flatten", 1) ∷ (codes "keydelete", 3) ∷ (codes "keyfind", 3) ∷ (codes "keymember", 3) ∷
    (codes "keyreplace", 4) ∷ (codes "keysort", 2) ∷ (codes "keystore", 4) ∷ (codes "last", 1) ∷
    (codes "max", 1) ∷ (codes "member", 2) ∷ (codes "min", 1) ∷ (codes "nth", 2) ∷
    (codes "nthtail", 2) ∷ (codes "reverse", 1) ∷ (codes "reverse", 2) ∷ (codes "seq", 2) ∷
    (codes "sort", 1) ∷ (codes "sublist", 2) ∷ (codes "sum", 1) ∷ (codes "unzip", 1) ∷
    (codes "usort", 1) ∷ (codes "zip", 2) ∷ []

-- the name of a module, and a key within it
abbrev pub BuiltIn : Type 0
BuiltIn = List ℕ × Key

-- the keys of a table, as built-ins of this module
abbrev pub within : List ℕ → List Key → List BuiltIn
within home keys = map (λ key. (home, key)) keys

-- a built-in's index is its place here
abbrev pub built_ins : List BuiltIn
built_ins =
    within (codes "erlang") erlang_keys ++ within (codes "int") int_keys ++
    within (codes "io") io_keys ++ within (codes "lists") lists_keys

abbrev pub same_built_in : BuiltIn → BuiltIn → Bool
same_built_in asked other = bytes_eq asked.0 other.0 && same_key asked.1 other.1

-- the index of the built-in of this module, name and arity
abbrev pub index_of : BuiltIn → Option ℕ
index_of asked = position (same_built_in asked) built_ins
