-- Bits and shifts, row by row.

use Rattle.std.proofs.Common.{◌≡◌, ◌^◌, Ok, refl}
use Rattle.edb_lang.specs.declared.operators.UnaryOp.TheVariants.{BitNot}
use Rattle.edb_lang.specs.declared.operators.BinaryOp.TheVariants.{BitAnd, BitOr, BitXor, ShiftLeft, ShiftRight}
use Rattle.edb_pure.specs.Answers.{badarith, system_limit}
use Rattle.edb_pure.specs.Operators.{operate, operate_one}
use Rattle.edb_pure.proofs.RowTerms.{number, minus, highest, lowest, word}

-- Bit by bit.

both : operate BitAnd (number 12) (number 10) ≡ Ok (number 8)
both = refl

either : operate BitOr (number 12) (number 10) ≡ Ok (number 14)
either = refl

one_alone : operate BitXor (number 12) (number 10) ≡ Ok (number 6)
one_alone = refl

other : operate_one BitNot (number 5) ≡ Ok (minus 6)
other = refl

other_of_lowest : operate_one BitNot lowest ≡ Ok highest
other_of_lowest = refl

all_ones : operate BitAnd (minus 1) (number 255) ≡ Ok (number 255)
all_ones = refl

negative_either : operate BitOr (minus 8) (number 3) ≡ Ok (minus 5)
negative_either = refl

negative_one_alone : operate BitXor (minus 5) (number 3) ≡ Ok (minus 8)
negative_one_alone = refl

ends_both : operate BitAnd lowest highest ≡ Ok (number 0)
ends_both = refl

ends_either : operate BitOr lowest highest ≡ Ok (minus 1)
ends_either = refl

both_of_atom : operate BitAnd (word "a") (number 1) ≡ badarith
both_of_atom = refl

either_of_atom : operate BitOr (number 1) (word "a") ≡ badarith
either_of_atom = refl

other_of_atom : operate_one BitNot (word "a") ≡ badarith
other_of_atom = refl

-- To the left.

left_three : operate ShiftLeft (number 1) (number 3) ≡ Ok (number 8)
left_three = refl

left_none : operate ShiftLeft (number 5) (number 0) ≡ Ok (number 5)
left_none = refl

left_126 : operate ShiftLeft (number 1) (number 126) ≡ Ok (number (2 ^ 126))
left_126 = refl

left_127 : operate ShiftLeft (number 1) (number 127) ≡ system_limit
left_127 = refl

left_lowest : operate ShiftLeft (minus 1) (number 127) ≡ Ok lowest
left_lowest = refl

left_128 : operate ShiftLeft (minus 1) (number 128) ≡ system_limit
left_128 = refl

left_far : operate ShiftLeft (number 1) highest ≡ system_limit
left_far = refl

left_zero : operate ShiftLeft (number 0) (number 128) ≡ Ok (number 0)
left_zero = refl

left_zero_far : operate ShiftLeft (number 0) highest ≡ Ok (number 0)
left_zero_far = refl

left_back : operate ShiftLeft (number 16) (minus 2) ≡ Ok (number 4)
left_back = refl

left_back_128 : operate ShiftLeft highest (minus 128) ≡ Ok (number 0)
left_back_128 = refl

left_back_of_negative : operate ShiftLeft lowest (minus 128) ≡ Ok (minus 1)
left_back_of_negative = refl

left_back_far : operate ShiftLeft (minus 1) lowest ≡ Ok (minus 1)
left_back_far = refl

left_of_atom : operate ShiftLeft (word "a") (number 1) ≡ badarith
left_of_atom = refl

left_by_atom : operate ShiftLeft (number 0) (word "a") ≡ badarith
left_by_atom = refl

-- To the right.

right_two : operate ShiftRight (number 16) (number 2) ≡ Ok (number 4)
right_two = refl

right_of_negative : operate ShiftRight (minus 7) (number 1) ≡ Ok (minus 4)
right_of_negative = refl

right_127 : operate ShiftRight highest (number 127) ≡ Ok (number 0)
right_127 = refl

right_127_of_lowest : operate ShiftRight lowest (number 127) ≡ Ok (minus 1)
right_127_of_lowest = refl

right_128_of_lowest : operate ShiftRight lowest (number 128) ≡ Ok (minus 1)
right_128_of_lowest = refl

right_126_of_lowest : operate ShiftRight lowest (number 126) ≡ Ok (minus 2)
right_126_of_lowest = refl

right_far : operate ShiftRight highest highest ≡ Ok (number 0)
right_far = refl

right_far_of_negative : operate ShiftRight (minus 1) highest ≡ Ok (minus 1)
right_far_of_negative = refl

right_back : operate ShiftRight (number 5) (minus 1) ≡ Ok (number 10)
right_back = refl

right_back_127 : operate ShiftRight (number 1) (minus 127) ≡ system_limit
right_back_127 = refl

right_back_far : operate ShiftRight (number 1) lowest ≡ system_limit
right_back_far = refl

right_back_zero : operate ShiftRight (number 0) lowest ≡ Ok (number 0)
right_back_zero = refl

right_of_atom : operate ShiftRight (word "a") (number 1) ≡ badarith
right_of_atom = refl
