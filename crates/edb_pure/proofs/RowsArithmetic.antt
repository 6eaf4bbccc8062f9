-- Arithmetic, comparisons and truth values, row by row.

use Rattle.std.proofs.Common.{◌≡◌, [], ◌-◌, ◌^◌, ◌∷◌, Ok, refl}
use Rattle.edb_lang.specs.declared.operators.UnaryOp.TheVariants.{Plus, Minus, Not}
use Rattle.edb_lang.specs.declared.operators.BinaryOp.TheVariants.{Add, Subtract, Multiply, Div, Rem, Divide, And, Or, Xor, Equal, Unequal, AtMost, LessThan, AtLeast, GreaterThan, ExactlyEqual, ExactlyUnequal}
use Rattle.edb_lang.specs.Terms.{nil}
use Rattle.edb_pure.specs.Answers.{badarg, badarith, system_limit}
use Rattle.edb_pure.specs.Operators.{operate, operate_one}
use Rattle.edb_pure.specs.Table.{rows}
use Rattle.edb_pure.proofs.RowTerms.{number, minus, highest, lowest, word, list, tuple, erlang}

-- Sums and products.

one_and_two : operate Add (number 1) (number 2) ≡ Ok (number 3)
one_and_two = refl

highest_and_one : operate Add highest (number 1) ≡ system_limit
highest_and_one = refl

lowest_and_zero : operate Add lowest (number 0) ≡ Ok lowest
lowest_and_zero = refl

lowest_and_less : operate Add lowest (minus 1) ≡ system_limit
lowest_and_less = refl

ends_together : operate Add lowest highest ≡ Ok (minus 1)
ends_together = refl

atom_and_one : operate Add (word "a") (number 1) ≡ badarith
atom_and_one = refl

one_and_atom : operate Add (number 1) (word "a") ≡ badarith
one_and_atom = refl

five_less_seven : operate Subtract (number 5) (number 7) ≡ Ok (minus 2)
five_less_seven = refl

lowest_less_one : operate Subtract lowest (number 1) ≡ system_limit
lowest_less_one = refl

zero_less_lowest : operate Subtract (number 0) lowest ≡ system_limit
zero_less_lowest = refl

six_times_seven : operate Multiply (number 6) (number 7) ≡ Ok (number 42)
six_times_seven = refl

signs_times : operate Multiply (minus 3) (number 4) ≡ Ok (minus 12)
signs_times = refl

times_too_large : operate Multiply (number (2 ^ 64)) (number (2 ^ 63)) ≡ system_limit
times_too_large = refl

times_lowest : operate Multiply (minus (2 ^ 64)) (number (2 ^ 63)) ≡ Ok lowest
times_lowest = refl

divided : operate Divide (number 4) (number 2) ≡ badarith
divided = refl

-- The quotient rounds toward zero, and the remainder has the sign of the dividend.

quotient : operate Div (number 7) (number 2) ≡ Ok (number 3)
quotient = refl

quotient_of_negative : operate Div (minus 7) (number 2) ≡ Ok (minus 3)
quotient_of_negative = refl

quotient_by_negative : operate Div (number 7) (minus 2) ≡ Ok (minus 3)
quotient_by_negative = refl

quotient_of_both : operate Div (minus 7) (minus 2) ≡ Ok (number 3)
quotient_of_both = refl

quotient_by_zero : operate Div (number 7) (number 0) ≡ badarith
quotient_by_zero = refl

quotient_of_atom : operate Div (word "a") (number 0) ≡ badarith
quotient_of_atom = refl

quotient_of_lowest : operate Div lowest (minus 1) ≡ system_limit
quotient_of_lowest = refl

remainder : operate Rem (number 7) (number 2) ≡ Ok (number 1)
remainder = refl

remainder_of_negative : operate Rem (minus 7) (number 2) ≡ Ok (minus 1)
remainder_of_negative = refl

remainder_by_negative : operate Rem (number 7) (minus 2) ≡ Ok (number 1)
remainder_by_negative = refl

remainder_by_zero : operate Rem (number 7) (number 0) ≡ badarith
remainder_by_zero = refl

remainder_of_lowest : operate Rem lowest (minus 1) ≡ Ok (number 0)
remainder_of_lowest = refl

-- Signs.

plus_five : operate_one Plus (number 5) ≡ Ok (number 5)
plus_five = refl

plus_atom : operate_one Plus (word "a") ≡ badarith
plus_atom = refl

minus_five : operate_one Minus (number 5) ≡ Ok (minus 5)
minus_five = refl

minus_highest : operate_one Minus highest ≡ Ok (minus (2 ^ 127 - 1))
minus_highest = refl

minus_lowest : operate_one Minus lowest ≡ system_limit
minus_lowest = refl

minus_atom : operate_one Minus (word "a") ≡ badarith
minus_atom = refl

size_of_negative : erlang "abs" ((minus 5) ∷ []) ≡ Ok (number 5)
unfolding rows
size_of_negative = refl

size_of_lowest : erlang "abs" (lowest ∷ []) ≡ system_limit
unfolding rows
size_of_lowest = refl

size_of_atom : erlang "abs" ((word "a") ∷ []) ≡ badarg
unfolding rows
size_of_atom = refl

size_of_five : erlang "abs" ((number 5) ∷ []) ≡ Ok (number 5)
unfolding rows
size_of_five = refl

-- Comparisons.

equal_of_less : operate Equal (number 1) (number 2) ≡ Ok (word "false")
equal_of_less = refl

equal_of_same : operate Equal (number 2) (number 2) ≡ Ok (word "true")
equal_of_same = refl

equal_of_greater : operate Equal (number 2) (number 1) ≡ Ok (word "false")
equal_of_greater = refl

unequal_of_less : operate Unequal (number 1) (number 2) ≡ Ok (word "true")
unequal_of_less = refl

unequal_of_same : operate Unequal (number 2) (number 2) ≡ Ok (word "false")
unequal_of_same = refl

unequal_of_greater : operate Unequal (number 2) (number 1) ≡ Ok (word "true")
unequal_of_greater = refl

at_most_of_less : operate AtMost (number 1) (number 2) ≡ Ok (word "true")
at_most_of_less = refl

at_most_of_same : operate AtMost (number 2) (number 2) ≡ Ok (word "true")
at_most_of_same = refl

at_most_of_greater : operate AtMost (number 2) (number 1) ≡ Ok (word "false")
at_most_of_greater = refl

less_of_less : operate LessThan (number 1) (number 2) ≡ Ok (word "true")
less_of_less = refl

less_of_same : operate LessThan (number 2) (number 2) ≡ Ok (word "false")
less_of_same = refl

less_of_greater : operate LessThan (number 2) (number 1) ≡ Ok (word "false")
less_of_greater = refl

at_least_of_less : operate AtLeast (number 1) (number 2) ≡ Ok (word "false")
at_least_of_less = refl

at_least_of_same : operate AtLeast (number 2) (number 2) ≡ Ok (word "true")
at_least_of_same = refl

at_least_of_greater : operate AtLeast (number 2) (number 1) ≡ Ok (word "true")
at_least_of_greater = refl

greater_of_less : operate GreaterThan (number 1) (number 2) ≡ Ok (word "false")
greater_of_less = refl

greater_of_same : operate GreaterThan (number 2) (number 2) ≡ Ok (word "false")
greater_of_same = refl

greater_of_greater : operate GreaterThan (number 2) (number 1) ≡ Ok (word "true")
greater_of_greater = refl

exactly_equal_of_less : operate ExactlyEqual (number 1) (number 2) ≡ Ok (word "false")
exactly_equal_of_less = refl

exactly_equal_of_same : operate ExactlyEqual (number 2) (number 2) ≡ Ok (word "true")
exactly_equal_of_same = refl

exactly_equal_of_greater : operate ExactlyEqual (number 2) (number 1) ≡ Ok (word "false")
exactly_equal_of_greater = refl

exactly_unequal_of_less : operate ExactlyUnequal (number 1) (number 2) ≡ Ok (word "true")
exactly_unequal_of_less = refl

exactly_unequal_of_same : operate ExactlyUnequal (number 2) (number 2) ≡ Ok (word "false")
exactly_unequal_of_same = refl

exactly_unequal_of_greater : operate ExactlyUnequal (number 2) (number 1) ≡ Ok (word "true")
exactly_unequal_of_greater = refl

number_less_than_atom : operate LessThan (number 1000) (word "a") ≡ Ok (word "true")
number_less_than_atom = refl

tuple_less_than_nil : operate LessThan (tuple ((number 1) ∷ (number 2) ∷ (number 3) ∷ [])) nil ≡ Ok (word "true")
tuple_less_than_nil = refl

nil_less_than_list : operate LessThan nil (list ((number 0) ∷ [])) ≡ Ok (word "true")
nil_less_than_list = refl

list_less_than_tuple : operate LessThan (list ((number 1) ∷ [])) (tuple ((number 1) ∷ [])) ≡ Ok (word "false")
list_less_than_tuple = refl

same_lists : operate ExactlyEqual (list ((number 1) ∷ (number 2) ∷ [])) (list ((number 1) ∷ (number 2) ∷ [])) ≡ Ok (word "true")
same_lists = refl

greater_of_two : erlang "max" ((number 1) ∷ (word "a") ∷ []) ≡ Ok (word "a")
unfolding rows
greater_of_two = refl

greater_of_two_first : erlang "max" (nil ∷ (word "a") ∷ []) ≡ Ok nil
unfolding rows
greater_of_two_first = refl

lesser_of_two : erlang "min" (nil ∷ (tuple ((number 1) ∷ [])) ∷ []) ≡ Ok (tuple ((number 1) ∷ []))
unfolding rows
lesser_of_two = refl

-- Truth values.

true_and_true : operate And (word "true") (word "true") ≡ Ok (word "true")
true_and_true = refl

true_and_false : operate And (word "true") (word "false") ≡ Ok (word "false")
true_and_false = refl

false_and_true : operate And (word "false") (word "true") ≡ Ok (word "false")
false_and_true = refl

false_and_false : operate And (word "false") (word "false") ≡ Ok (word "false")
false_and_false = refl

true_or_true : operate Or (word "true") (word "true") ≡ Ok (word "true")
true_or_true = refl

true_or_false : operate Or (word "true") (word "false") ≡ Ok (word "true")
true_or_false = refl

false_or_true : operate Or (word "false") (word "true") ≡ Ok (word "true")
false_or_true = refl

false_or_false : operate Or (word "false") (word "false") ≡ Ok (word "false")
false_or_false = refl

true_xor_true : operate Xor (word "true") (word "true") ≡ Ok (word "false")
true_xor_true = refl

true_xor_false : operate Xor (word "true") (word "false") ≡ Ok (word "true")
true_xor_false = refl

false_xor_true : operate Xor (word "false") (word "true") ≡ Ok (word "true")
false_xor_true = refl

false_xor_false : operate Xor (word "false") (word "false") ≡ Ok (word "false")
false_xor_false = refl

false_and_number : operate And (word "false") (number 1) ≡ badarg
false_and_number = refl

number_or_true : operate Or (number 1) (word "true") ≡ badarg
number_or_true = refl

true_or_atom : operate Or (word "true") (word "a") ≡ badarg
true_or_atom = refl

true_xor_atom : operate Xor (word "true") (word "a") ≡ badarg
true_xor_atom = refl

not_false : operate_one Not (word "false") ≡ Ok (word "true")
not_false = refl

not_true : operate_one Not (word "true") ≡ Ok (word "false")
not_true = refl

not_number : operate_one Not (number 1) ≡ badarg
not_number = refl
