-- The table: each built-in that is no shared act, with its answer. `apply/2` and `apply/3` are no rows: they become the
-- calls that they stand for.

use Rattle.std.specs.Prelude.{ℕ, Bool, is_some, List, [], ◌∷◌, find, codes, Option, Ok}
use Rattle.std.specs.Option.{option_map_or}
use Rattle.edb_lang.specs.declared.small.Class.TheVariants.{Error, Exit, Throw}
use Rattle.edb_lang.specs.Terms.{Datum, pid}
use Rattle.edb_table.specs.BuiltIns.{BuiltIn, same_built_in}
use Rattle.edb_pure.specs.Answers.{Answer, raise, badarg}
use Rattle.edb_pure.specs.Integers.{absolute}
use Rattle.edb_pure.specs.Texts.{atom_to_list, list_to_atom, integer_to_list, list_to_integer}
use Rattle.edb_pure.specs.Tuples.{element, setelement, append_element, tuple_size, tuple_to_list, list_to_tuple}
use Rattle.edb_pure.specs.Kinds.{is_atom, is_boolean, is_function, is_function_of, is_integer, is_list, is_number, is_pid, is_reference, is_tuple}
use Rattle.edb_pure.specs.Lists.{hd, tl, list_length, max_of, min_of, append_all, append_two, delete, duplicate, flatten, last, greatest, member, least, nth, nthtail, reverse_one, reverse_onto, seq, sort, sublist, sum, unzip, usort, zip_lists}
use Rattle.edb_pure.specs.Keys.{keydelete, keyfind, keymember, keyreplace, keysort, keystore}
use Rattle.edb_pure.specs.Lookups.{get_binding}

-- a built-in, and its answer to a process, by its number, and to the arguments
pub record Row : Type 0 where
  pub key : BuiltIn
  pub gives : ℕ → List Datum → Answer

-- a row of a module, with its name and arity
abbrev pub row : List ℕ → List ℕ → ℕ → (ℕ → List Datum → Answer) → Row
row home name arity gives = record { key = (home, (name, arity)); gives = gives }

-- the answer to one argument; a built-in is not called with another number of them, and `badarg` stands for that
abbrev pub of_one : (Datum → Answer) → ℕ → List Datum → Answer
of_one f me (a ∷ []) = f a
of_one f me _ = badarg

-- the same of two
abbrev pub of_two : (Datum → Datum → Answer) → ℕ → List Datum → Answer
of_two f me (a ∷ b ∷ []) = f a b
of_two f me _ = badarg

-- the same of three
abbrev pub of_three : (Datum → Datum → Datum → Answer) → ℕ → List Datum → Answer
of_three f me (a ∷ b ∷ c ∷ []) = f a b c
of_three f me _ = badarg

-- the same of four
abbrev pub of_four : (Datum → Datum → Datum → Datum → Answer) → ℕ → List Datum → Answer
of_four f me (a ∷ b ∷ c ∷ d ∷ []) = f a b c d
of_four f me _ = badarg

-- the pid of the process that asks
abbrev pub self : ℕ → List Datum → Answer
self me [] = Ok (pid me)
self me _ = badarg

-- The rows, in the order of the tables of built-ins.
unfoldable pub rows : List Row
rows =
    row (codes "erlang") (codes "abs") 1 (of_one absolute)
    ∷ row (codes "erlang") (codes "append_element") 2 (of_two append_element)
    ∷ row (codes "erlang") (codes "atom_to_list") 1 (of_one atom_to_list)
    ∷ row (codes "erlang") (codes "element") 2 (of_two element)
    ∷ row (codes "erlang") (codes "error") 1 (of_one (raise Error))
    ∷ row (codes "erlang") (codes "exit") 1 (of_one (raise Exit))
    ∷ row (codes "erlang") (codes "hd") 1 (of_one hd)
    ∷ row (codes "erlang") (codes "integer_to_list") 1 (of_one integer_to_list)
    ∷ row (codes "erlang") (codes "is_atom") 1 (of_one is_atom)
    ∷ row (codes "erlang") (codes "is_boolean") 1 (of_one is_boolean)
    ∷ row (codes "erlang") (codes "is_function") 1 (of_one is_function)
    ∷ row (codes "erlang") (codes "is_function") 2 (of_two is_function_of)
    ∷ row (codes "erlang") (codes "is_integer") 1 (of_one is_integer)
    ∷ row (codes "erlang") (codes "is_list") 1 (of_one is_list)
    ∷ row (codes "erlang") (codes "is_number") 1 (of_one is_number)
    ∷ row (codes "erlang") (codes "is_pid") 1 (of_one is_pid)
    ∷ row (codes "erlang") (codes "is_reference") 1 (of_one is_reference)
    ∷ row (codes "erlang") (codes "is_tuple") 1 (of_one is_tuple)
    ∷ row (codes "erlang") (codes "length") 1 (of_one list_length)
    ∷ row (codes "erlang") (codes "list_to_atom") 1 (of_one list_to_atom)
    ∷ row (codes "erlang") (codes "list_to_integer") 1 (of_one list_to_integer)
    ∷ row (codes "erlang") (codes "list_to_tuple") 1 (of_one list_to_tuple)
    ∷ row (codes "erlang") (codes "max") 2 (of_two max_of)
    ∷ row (codes "erlang") (codes "min") 2 (of_two min_of)
    ∷ row (codes "erlang") (codes "self") 0 self
    ∷ row (codes "erlang") (codes "setelement") 3 (of_three setelement)
    ∷ row (codes "erlang") (codes "throw") 1 (of_one (raise Throw))
    ∷ row (codes "erlang") (codes "tl") 1 (of_one tl)
    ∷ row (codes "erlang") (codes "tuple_size") 1 (of_one tuple_size)
    ∷ row (codes "erlang") (codes "tuple_to_list") 1 (of_one tuple_to_list)
    ∷ row (codes "int") (codes "get_binding") 2 (of_two get_binding)
    ∷ row (codes "lists") (codes "append") 1 (of_one append_all)
    ∷ row (codes "lists") (codes "append") 2 (of_two append_two)
    ∷ row (codes "lists") (codes "delete") 2 (of_two delete)
    ∷ row (codes "lists") (codes "duplicate") 2 (of_two duplicate)
    ∷ row (codes "lists") (codes "flatten") 1 (of_one flatten)
    ∷ row (codes "lists") (codes "keydelete") 3 (of_three keydelete)
    ∷ row (codes "lists") (codes "keyfind") 3 (of_three keyfind)
    ∷ row (codes "lists") (codes "keymember") 3 (of_three keymember)
    ∷ row (codes "lists") (codes "keyreplace") 4 (of_four keyreplace)
    ∷ row (codes "lists") (codes "keysort") 2 (of_two keysort)
    ∷ row (codes "lists") (codes "keystore") 4 (of_four keystore)
    ∷ row (codes "lists") (codes "last") 1 (of_one last)
    ∷ row (codes "lists") (codes "max") 1 (of_one greatest)
    ∷ row (codes "lists") (codes "member") 2 (of_two member)
    ∷ row (codes "lists") (codes "min") 1 (of_one least)
    ∷ row (codes "lists") (codes "nth") 2 (of_two nth)
    ∷ row (codes "lists") (codes "nthtail") 2 (of_two nthtail)
    ∷ row (codes "lists") (codes "reverse") 1 (of_one reverse_one)
    ∷ row (codes "lists") (codes "reverse") 2 (of_two reverse_onto)
    ∷ row (codes "lists") (codes "seq") 2 (of_two seq)
    ∷ row (codes "lists") (codes "sort") 1 (of_one sort)
    ∷ row (codes "lists") (codes "sublist") 2 (of_two sublist)
    ∷ row (codes "lists") (codes "sum") 1 (of_one sum)
    ∷ row (codes "lists") (codes "unzip") 1 (of_one unzip)
    ∷ row (codes "lists") (codes "usort") 1 (of_one usort)
    ∷ row (codes "lists") (codes "zip") 2 (of_two zip_lists)
    ∷ []

-- the first row with this key
abbrev pub read : List Row → BuiltIn → Option Row
read rows key = find (λ r. same_built_in key r.key) rows

-- the answer of a built-in to a process and to the arguments; `badarg` stands for one that has no row
abbrev pub pure : BuiltIn → ℕ → List Datum → Answer
pure key me vs = option_map_or (λ r. r.gives me vs) (read rows key) badarg

-- whether a built-in has a row
abbrev pub is_pure : BuiltIn → Bool
is_pure key = is_some (read rows key)
