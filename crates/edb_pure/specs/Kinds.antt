-- Kinds: the tests of what a term is.

use Rattle.std.specs.Prelude.{ℕ, true, false, ◌==◌, is_some, Option, None, Some}
use Rattle.std.specs.Option.{option_map_or}
use Rattle.edb_lang.specs.Terms.{Datum, atom, reference, made, named, pid, nil, cons}
use Rattle.edb_pure.specs.Answers.{Answer, given}
use Rattle.edb_pure.specs.Integers.{integer_of, count_of}
use Rattle.edb_pure.specs.Truths.{truth_of, truth_answer}
use Rattle.edb_pure.specs.Tuples.{tuple_items}

-- an atom
abbrev pub is_atom : Datum → Answer
is_atom (atom a) = truth_answer true
is_atom _ = truth_answer false

-- the atom `true` or `false`
abbrev pub is_boolean : Datum → Answer
is_boolean t = truth_answer (is_some (truth_of t))

-- an integer
abbrev pub is_integer : Datum → Answer
is_integer t = truth_answer (is_some (integer_of t))

-- There are no numbers but integers.
abbrev pub is_number : Datum → Answer
is_number t = is_integer t

-- the empty list or a cell, whatever the cell ends in
abbrev pub is_list : Datum → Answer
is_list nil = truth_answer true
is_list (cons h t) = truth_answer true
is_list _ = truth_answer false

-- a tuple of any size
abbrev pub is_tuple : Datum → Answer
is_tuple t = truth_answer (is_some (tuple_items t))

-- the pid of a process
abbrev pub is_pid : Datum → Answer
is_pid (pid p) = truth_answer true
is_pid _ = truth_answer false

-- a reference
abbrev pub is_reference : Datum → Answer
is_reference (reference r) = truth_answer true
is_reference _ = truth_answer false

-- how many arguments a fun takes
abbrev pub arity_of : Datum → Option ℕ
arity_of (made m v i n cs) = Some n
arity_of (named m f n) = Some n
arity_of _ = None

-- a fun, which was made or names a function
abbrev pub is_function : Datum → Answer
is_function t = truth_answer (is_some (arity_of t))

-- a fun that takes so many arguments
abbrev pub is_function_of : Datum → Datum → Answer
is_function_of t n = given (count_of n) (λ k. truth_answer (option_map_or (λ arity. arity == k) (arity_of t) false))
