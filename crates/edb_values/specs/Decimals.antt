-- Decimal digits: the number that they write, and an integer of a sign and a size.

use Rattle.std.specs.Prelude.{ℕ, ◌+◌, ◌-◌, ◌*◌, ℤ, pos, neg_ℤ, Bool, if◌then◌else◌, List, fold}

-- the number with the character of one more digit, of which `0` is 48
abbrev pub further : ℕ → ℕ → ℕ
further n d = 10 * n + (d - 48)

-- the number that the characters of digits write
abbrev pub number : List ℕ → ℕ
number ds = fold further 0 ds

-- the integer of this size, which is not above 0 if there is a minus sign
abbrev pub signed : Bool → ℕ → ℤ
signed minus n = if minus then neg_ℤ (pos n) else pos n
