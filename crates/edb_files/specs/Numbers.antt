-- Numbers among the words of a command line.

use Rattle.std.specs.Prelude.{◌≡◌, ℕ, Bool, if◌then◌else◌, ◌&&◌, nat_le, List, length, Option, None, Some, codes, refl}
use Rattle.std.specs.Char.{is_ascii_digit}
use Rattle.std.specs.List.{list_all}
use Rattle.std.specs.Str.Parse.{digits_value}

-- a word of 1 to 7 decimal digits
abbrev pub is_number : List ℕ → Bool
is_number word = nat_le 1 (length word) && (nat_le (length word) 7 && list_all is_ascii_digit word)

-- a number of at least `least` and at most `most`
abbrev pub in_range : ℕ → ℕ → ℕ → Option ℕ
in_range least most n = if nat_le least n && nat_le n most then Some n else None

-- the number that a word is, if it is one and in range
abbrev pub number_in : ℕ → ℕ → List ℕ → Option ℕ
number_in least most word = if is_number word then in_range least most (digits_value 10 word) else None

-- zeros in front count as digits
seven_digits : number_in 1 200 (codes "0000200") ≡ Some 200
seven_digits = refl

eight_digits : number_in 1 200 (codes "00000200") ≡ None
eight_digits = refl

one_too_many : number_in 1 200 (codes "201") ≡ None
one_too_many = refl

no_digits : number_in 0 200 (codes "") ≡ None
no_digits = refl

a_sign : number_in 0 200 (codes "+5") ≡ None
a_sign = refl
