-- Tests, tuples, processes and exceptions, row by row.

use Rattle.std.proofs.Common.{◌≡◌, [], ◌∷◌, Ok, true, is_ok, refl}
use Rattle.edb_lang.specs.declared.small.Class.TheVariants.{Error, Exit, Throw}
use Rattle.edb_lang.specs.Terms.{nil, pid, reference, made, named, uncaptured}
use Rattle.edb_lang.specs.ListTerms.{list_of}
use Rattle.edb_pure.specs.Answers.{raise, badarg, system_limit}
use Rattle.edb_pure.specs.Table.{rows}
use Rattle.edb_pure.proofs.RowTerms.{number, minus, highest, word, list, tuple, zeros, erlang}

-- Tests.

is_atom : erlang "is_atom" ((word "a") ∷ []) ≡ Ok (word "true")
unfolding rows
is_atom = refl

nil_is_no_atom : erlang "is_atom" (nil ∷ []) ≡ Ok (word "false")
unfolding rows
nil_is_no_atom = refl

is_boolean : erlang "is_boolean" ((word "false") ∷ []) ≡ Ok (word "true")
unfolding rows
is_boolean = refl

atom_is_no_boolean : erlang "is_boolean" ((word "a") ∷ []) ≡ Ok (word "false")
unfolding rows
atom_is_no_boolean = refl

is_integer : erlang "is_integer" ((minus 1) ∷ []) ≡ Ok (word "true")
unfolding rows
is_integer = refl

atom_is_no_integer : erlang "is_integer" ((word "a") ∷ []) ≡ Ok (word "false")
unfolding rows
atom_is_no_integer = refl

is_number : erlang "is_number" ((number 1) ∷ []) ≡ Ok (word "true")
unfolding rows
is_number = refl

tuple_is_no_number : erlang "is_number" ((tuple ((number 1) ∷ [])) ∷ []) ≡ Ok (word "false")
unfolding rows
tuple_is_no_number = refl

is_list : erlang "is_list" ((list ((number 1) ∷ [])) ∷ []) ≡ Ok (word "true")
unfolding rows
is_list = refl

nil_is_list : erlang "is_list" (nil ∷ []) ≡ Ok (word "true")
unfolding rows
nil_is_list = refl

improper_is_list : erlang "is_list" ((list_of ((number 1) ∷ []) (number 2)) ∷ []) ≡ Ok (word "true")
unfolding rows
improper_is_list = refl

tuple_is_no_list : erlang "is_list" ((tuple []) ∷ []) ≡ Ok (word "false")
unfolding rows
tuple_is_no_list = refl

is_tuple : erlang "is_tuple" ((tuple []) ∷ []) ≡ Ok (word "true")
unfolding rows
is_tuple = refl

list_is_no_tuple : erlang "is_tuple" ((list ((number 1) ∷ [])) ∷ []) ≡ Ok (word "false")
unfolding rows
list_is_no_tuple = refl

is_pid : erlang "is_pid" ((pid 1) ∷ []) ≡ Ok (word "true")
unfolding rows
is_pid = refl

number_is_no_pid : erlang "is_pid" ((number 1) ∷ []) ≡ Ok (word "false")
unfolding rows
number_is_no_pid = refl

is_reference : erlang "is_reference" ((reference 1) ∷ []) ≡ Ok (word "true")
unfolding rows
is_reference = refl

pid_is_no_reference : erlang "is_reference" ((pid 1) ∷ []) ≡ Ok (word "false")
unfolding rows
pid_is_no_reference = refl

made_is_function : erlang "is_function" ((made [] 1 0 2 uncaptured) ∷ []) ≡ Ok (word "true")
unfolding rows
made_is_function = refl

named_is_function : erlang "is_function" ((named [] [] 3) ∷ []) ≡ Ok (word "true")
unfolding rows
named_is_function = refl

atom_is_no_function : erlang "is_function" ((word "a") ∷ []) ≡ Ok (word "false")
unfolding rows
atom_is_no_function = refl

is_function_of : erlang "is_function" ((made [] 1 0 2 uncaptured) ∷ (number 2) ∷ []) ≡ Ok (word "true")
unfolding rows
is_function_of = refl

is_function_of_another : erlang "is_function" ((named [] [] 3) ∷ (number 2) ∷ []) ≡ Ok (word "false")
unfolding rows
is_function_of_another = refl

atom_is_no_function_of : erlang "is_function" ((word "a") ∷ (number 2) ∷ []) ≡ Ok (word "false")
unfolding rows
atom_is_no_function_of = refl

is_function_of_negative : erlang "is_function" ((word "a") ∷ (minus 1) ∷ []) ≡ badarg
unfolding rows
is_function_of_negative = refl

is_function_of_atom : erlang "is_function" ((made [] 1 0 2 uncaptured) ∷ (word "a") ∷ []) ≡ badarg
unfolding rows
is_function_of_atom = refl

-- Tuples.

element : erlang "element" ((number 2) ∷ (tuple ((word "a") ∷ (word "b") ∷ [])) ∷ []) ≡ Ok (word "b")
unfolding rows
element = refl

element_0 : erlang "element" ((number 0) ∷ (tuple ((word "a") ∷ [])) ∷ []) ≡ badarg
unfolding rows
element_0 = refl

element_past_the_end : erlang "element" ((number 2) ∷ (tuple ((word "a") ∷ [])) ∷ []) ≡ badarg
unfolding rows
element_past_the_end = refl

element_far : erlang "element" (highest ∷ (tuple ((word "a") ∷ [])) ∷ []) ≡ badarg
unfolding rows
element_far = refl

element_of_list : erlang "element" ((number 1) ∷ (list ((word "a") ∷ [])) ∷ []) ≡ badarg
unfolding rows
element_of_list = refl

setelement : erlang "setelement" ((number 2) ∷ (tuple ((word "a") ∷ (word "b") ∷ [])) ∷ (word "c") ∷ []) ≡ Ok (tuple ((word "a") ∷ (word "c") ∷ []))
unfolding rows
setelement = refl

setelement_past_the_end : erlang "setelement" ((number 3) ∷ (tuple ((word "a") ∷ (word "b") ∷ [])) ∷ (word "c") ∷ []) ≡ badarg
unfolding rows
setelement_past_the_end = refl

setelement_too_high : erlang "setelement" ((number 1) ∷ (tuple ((word "a") ∷ [])) ∷ (list (zeros 4000)) ∷ []) ≡ system_limit
unfolding rows
setelement_too_high = refl

setelement_as_high : is_ok (erlang "setelement" ((number 1) ∷ (tuple ((word "a") ∷ [])) ∷ (list (zeros 3999)) ∷ [])) ≡ true
unfolding rows
setelement_as_high = refl

setelement_of_atom : erlang "setelement" ((number 1) ∷ (word "a") ∷ (list (zeros 4000)) ∷ []) ≡ badarg
unfolding rows
setelement_of_atom = refl

append_element : erlang "append_element" ((tuple ((word "a") ∷ [])) ∷ (word "b") ∷ []) ≡ Ok (tuple ((word "a") ∷ (word "b") ∷ []))
unfolding rows
append_element = refl

append_element_to_atom : erlang "append_element" ((word "a") ∷ (word "b") ∷ []) ≡ badarg
unfolding rows
append_element_to_atom = refl

tuple_size : erlang "tuple_size" ((tuple ((word "a") ∷ (word "b") ∷ [])) ∷ []) ≡ Ok (number 2)
unfolding rows
tuple_size = refl

size_of_list : erlang "tuple_size" ((list ((word "a") ∷ [])) ∷ []) ≡ badarg
unfolding rows
size_of_list = refl

tuple_to_list : erlang "tuple_to_list" ((tuple ((word "a") ∷ (word "b") ∷ [])) ∷ []) ≡ Ok (list ((word "a") ∷ (word "b") ∷ []))
unfolding rows
tuple_to_list = refl

atom_to_elements : erlang "tuple_to_list" ((word "a") ∷ []) ≡ badarg
unfolding rows
atom_to_elements = refl

tuple_to_list_4001 : erlang "tuple_to_list" ((tuple (zeros 4001)) ∷ []) ≡ system_limit
unfolding rows
tuple_to_list_4001 = refl

list_to_tuple : erlang "list_to_tuple" ((list ((word "a") ∷ (word "b") ∷ [])) ∷ []) ≡ Ok (tuple ((word "a") ∷ (word "b") ∷ []))
unfolding rows
list_to_tuple = refl

list_to_tuple_improper : erlang "list_to_tuple" ((list_of ((number 1) ∷ []) (number 2)) ∷ []) ≡ badarg
unfolding rows
list_to_tuple_improper = refl

-- Processes and exceptions.

self : erlang "self" [] ≡ Ok (pid 7)
unfolding rows
self = refl

error : erlang "error" ((word "r") ∷ []) ≡ raise Error (word "r")
unfolding rows
error = refl

exit : erlang "exit" ((tuple ((number 1) ∷ [])) ∷ []) ≡ raise Exit (tuple (number 1 ∷ []))
unfolding rows
exit = refl

throw : erlang "throw" (nil ∷ []) ≡ raise Throw nil
unfolding rows
throw = refl
