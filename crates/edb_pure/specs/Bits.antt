-- Bits: an integer's bits are those of two's complement, of which 128 hold each integer of the range.

use Rattle.std.specs.Prelude.{ℕ, ◌^◌, min, ℤ, pos, negsuc, ◌*ℤ◌, suc, bit_and, bit_or, bit_xor, Ok}
use Rattle.std.specs.Int.{w128, cast_unsigned, cast_signed}
use Rattle.std.specs.Int.Signed.{shr_z as shifted_down}
use Rattle.edb_lang.specs.Terms.{int}
use Rattle.edb_pure.specs.Answers.{Answer}
use Rattle.edb_pure.specs.Integers.{integer_answer}

-- An operation bit by bit. Its result has as many bits, and is in the range.
abbrev pub bitwise : (ℕ → ℕ → ℕ) → ℤ → ℤ → Answer
bitwise f i j = Ok (int (cast_signed w128 (f (cast_unsigned w128 i) (cast_unsigned w128 j))))

-- the bits that both have
abbrev pub both_bits : ℤ → ℤ → Answer
both_bits = bitwise bit_and

-- the bits that one of them or both have
abbrev pub either_bits : ℤ → ℤ → Answer
either_bits = bitwise bit_or

-- the bits that one of them alone has
abbrev pub one_bits : ℤ → ℤ → Answer
one_bits = bitwise bit_xor

-- each bit turned: n becomes -(n + 1)
abbrev pub complement : ℤ → ℤ
complement (pos n) = negsuc n
complement (negsuc n) = pos n

-- the bits that an integer does not have
abbrev pub other_bits : ℤ → Answer
other_bits i = Ok (int (complement i))

-- No integer of the range has more than 128 bits. So a shift by more places than that gives what a shift by 128 gives:
-- to the left 0, or an integer that is out of the range; to the right 0 or -1.
abbrev pub places : ℕ → ℕ
places k = min k 128

-- to the left by k places: times 2^k
abbrev pub up : ℤ → ℕ → Answer
up i k = integer_answer (i *ℤ pos (2 ^ places k))

-- to the right by k places: the quotient by 2^k, rounded down, which is in the range
abbrev pub down : ℤ → ℕ → Answer
down i k = Ok (int (shifted_down i (2 ^ places k)))

-- to the left by a count; by a negative one it goes the other way
abbrev pub shift_left : ℤ → ℤ → Answer
shift_left i (pos k) = up i k
shift_left i (negsuc k) = down i (suc k)

-- to the right by a count; by a negative one it goes the other way
abbrev pub shift_right : ℤ → ℤ → Answer
shift_right i (pos k) = down i k
shift_right i (negsuc k) = up i (suc k)
