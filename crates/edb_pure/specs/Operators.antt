-- Operators: the answer of each to the values of its operands.

use Rattle.std.specs.Prelude.{not, ◌&&◌, ◌||◌}
use Rattle.std.specs.Ordering.{is_eq, is_ne, is_lt, is_le, is_gt, is_ge}
use Rattle.edb_lang.specs.declared.operators.UnaryOp.{UnaryOp}
use Rattle.edb_lang.specs.declared.operators.UnaryOp.TheVariants.{Plus, Minus, BitNot, Not}
use Rattle.edb_lang.specs.declared.operators.BinaryOp.{BinaryOp}
use Rattle.edb_lang.specs.declared.operators.BinaryOp.TheVariants.{Divide, Multiply, Div, Rem, BitAnd, And, Add, Subtract, BitOr, BitXor, ShiftLeft, ShiftRight, Or, Xor, Append, Remove, Equal, Unequal, AtMost, LessThan, AtLeast, GreaterThan, ExactlyEqual, ExactlyUnequal}
use Rattle.edb_lang.specs.Terms.{Datum}
use Rattle.edb_pure.specs.Answers.{Answer, badarith}
use Rattle.edb_pure.specs.Integers.{integer_answer, of_integer, of_integers, add, subtract, multiply, quotient, remainder, negate}
use Rattle.edb_pure.specs.Bits.{both_bits, either_bits, one_bits, other_bits, shift_left, shift_right}
use Rattle.edb_pure.specs.Truths.{of_truth, of_truths, one_alone, comparison}
use Rattle.edb_pure.specs.Lists.{append_operator, remove_each}

-- The operators with two operands that are values: levels 3 to 6. There are no numbers but integers: `/` has no result, and equal terms are exactly
-- equal.
abbrev pub operate : BinaryOp → Datum → Datum → Answer
operate Divide a b = badarith
operate Multiply a b = of_integers multiply a b
operate Div a b = of_integers quotient a b
operate Rem a b = of_integers remainder a b
operate BitAnd a b = of_integers both_bits a b
operate And a b = of_truths ◌&&◌ a b
operate Add a b = of_integers add a b
operate Subtract a b = of_integers subtract a b
operate BitOr a b = of_integers either_bits a b
operate BitXor a b = of_integers one_bits a b
operate ShiftLeft a b = of_integers shift_left a b
operate ShiftRight a b = of_integers shift_right a b
operate Or a b = of_truths ◌||◌ a b
operate Xor a b = of_truths one_alone a b
operate Append a b = append_operator a b
operate Remove a b = remove_each a b
operate Equal a b = comparison is_eq a b
operate Unequal a b = comparison is_ne a b
operate AtMost a b = comparison is_le a b
operate LessThan a b = comparison is_lt a b
operate AtLeast a b = comparison is_ge a b
operate GreaterThan a b = comparison is_gt a b
operate ExactlyEqual a b = comparison is_eq a b
operate ExactlyUnequal a b = comparison is_ne a b

-- the operators with one operand
abbrev pub operate_one : UnaryOp → Datum → Answer
operate_one Plus a = of_integer integer_answer a
operate_one Minus a = of_integer negate a
operate_one BitNot a = of_integer other_bits a
operate_one Not a = of_truth not a
