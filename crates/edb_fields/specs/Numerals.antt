-- Numbers: decimal without leading zeros, between two bounds.

use Rattle.std.specs.Prelude.{◌≡◌, ℕ, ◌+◌, ◌-◌, ◌*◌, ◌^◌, ◌≤◌, nat_le, if◌then◌else◌, ◌==◌, ◌&&◌, List, [], ◌∷◌, Option, None, Some, codes, refl}
use Rattle.std.specs.Char.{is_ascii_digit}
use Rattle.edb_fields.specs.Chain.{◌>>=◌}
use Rattle.edb_fields.specs.Reading.{space_at}
use Rattle.edb_fields.specs.Separators.{ends}

-- the bounds of a number
abbrev pub IsBetween : ℕ → ℕ → ℕ → Type 0
IsBetween least most n = (least ≤ n) × (n ≤ most)

-- the number with one more digit, if it is not above `most`
abbrev pub digit_on : ℕ → ℕ → ℕ → Option ℕ
digit_on most n c = if nat_le (n * 10 + (c - 48)) most then Some (n * 10 + (c - 48)) else None

-- the number n with the digits at the front, and the rest; nothing if it grows above `most`
abbrev mutual
  pub digits_at : ℕ → ℕ → List ℕ → Option (ℕ × List ℕ)
  digits_at most n [] = Some (n, [])
  digits_at most n (c ∷ cs) = if is_ascii_digit c then digit_on most n c >>= (λ m. digits_at most m cs) else Some (n, c ∷ cs)

-- the number at the front: a zero alone, or digits of which the first is none
abbrev pub numeral_at : ℕ → List ℕ → Option (ℕ × List ℕ)
numeral_at most [] = None
numeral_at most (c ∷ cs) = if c == 48 then Some (0, cs) else if is_ascii_digit c then digits_at most 0 (c ∷ cs) else None

-- a number's field
abbrev pub number_at : ℕ → ℕ → List ℕ → Option (ℕ × List ℕ)
number_at least most bytes = do
  from ← space_at bytes
  (n, rest) ← numeral_at most from
  if nat_le least n && ends rest then Some (n, rest) else None

a_number : number_at 1 8 (codes " 7 x") ≡ Some (7, codes " x")
a_number = refl

above_the_bound : number_at 1 8 (codes " 9\n") ≡ None
above_the_bound = refl

below_the_bound : number_at 1 8 (codes " 0\n") ≡ None
below_the_bound = refl

long_number : number_at 0 (2 ^ 128 - 1) (codes " 340282366920938463463374607431768211455\n") ≡ Some (2 ^ 128 - 1, codes "\n")
long_number = refl

too_long : number_at 0 (2 ^ 128 - 1) (codes " 340282366920938463463374607431768211456\n") ≡ None
too_long = refl

leading_zero : number_at 0 100 (codes " 01\n") ≡ None
leading_zero = refl

zero_alone : number_at 0 100 (codes " 0\n") ≡ Some (0, codes "\n")
zero_alone = refl

two_spaces : number_at 0 100 (codes "  1\n") ≡ None
two_spaces = refl

no_digits : number_at 0 100 (codes " \n") ≡ None
no_digits = refl

no_end : number_at 0 100 (codes " 12") ≡ None
no_end = refl
