-- Arithmetic: each operation is that of all integers, and its result has to be in the range.

use Rattle.std.specs.Prelude.{ℕ, ◌^◌, ℤ, pos, negsuc, ◌+ℤ◌, ◌-ℤ◌, ◌*ℤ◌, neg_ℤ, unsigned_abs, int_div, int_rem, Bool, if◌then◌else◌, nat_lt, Option, None, Some, Ok}
use Rattle.std.specs.Ordering.{int_eq}
use Rattle.edb_lang.specs.Terms.{Datum, int}
use Rattle.edb_pure.specs.Answers.{Answer, badarith, system_limit, given}

-- integers go from -2^127 to 2^127 - 1
abbrev pub fits : ℤ → Bool
fits (pos n) = nat_lt n (2 ^ 127)
fits (negsuc n) = nat_lt n (2 ^ 127)

-- an integer as a result
abbrev pub integer_answer : ℤ → Answer
integer_answer i = if fits i then Ok (int i) else system_limit

-- the integer that a term is
abbrev pub integer_of : Datum → Option ℤ
integer_of (int i) = Some i
integer_of _ = None

-- a count, which is an integer of at least 0
abbrev pub count_of : Datum → Option ℕ
count_of (int (pos n)) = Some n
count_of _ = None

-- an operation on an integer; of anything else it is `badarith`
abbrev pub of_integer : (ℤ → Answer) → Datum → Answer
of_integer f (int i) = f i
of_integer f _ = badarith

-- the same of two
abbrev pub of_integers : (ℤ → ℤ → Answer) → Datum → Datum → Answer
of_integers f (int i) t = of_integer (f i) t
of_integers f _ t = badarith

-- the sum
abbrev pub add : ℤ → ℤ → Answer
add i j = integer_answer (i +ℤ j)

-- the difference
abbrev pub subtract : ℤ → ℤ → Answer
subtract i j = integer_answer (i -ℤ j)

-- the product
abbrev pub multiply : ℤ → ℤ → Answer
multiply i j = integer_answer (i *ℤ j)

-- an operation that has no result for the divisor 0
abbrev pub division : (ℤ → ℤ → ℤ) → ℤ → ℤ → Answer
division f i j = if int_eq j (pos 0) then badarith else integer_answer (f i j)

-- the quotient rounds toward zero
abbrev pub quotient : ℤ → ℤ → Answer
quotient = division int_div

-- the remainder has the sign of the dividend
abbrev pub remainder : ℤ → ℤ → Answer
remainder = division int_rem

-- the integer with the other sign
abbrev pub negate : ℤ → Answer
negate i = integer_answer (neg_ℤ i)

-- how far an integer is from 0; an argument that is no integer is `badarg`
abbrev pub absolute : Datum → Answer
absolute t = given (integer_of t) (λ i. integer_answer (pos (unsigned_abs i)))
