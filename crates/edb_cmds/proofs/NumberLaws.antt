-- Numbers, digit by digit.
use Rattle.std.proofs.Common.{◌≡◌, ℕ, zero, suc, ◌+◌, ◌*◌, ◌<◌, ◌≤◌, List, [], ◌∷◌, length, take, get_or, arith, length-take}
use Rattle.std.specs.Char.{digit_value}
use Rattle.std.specs.Str.Parse.{AllDigits, digits_value}
use Rattle.std.proofs.lemmas.Int.Digits.{digits_more, digits_value_more}
use Rattle.std.proofs.lemmas.Str.Parse.{numerals_by_value, tells_digits, digits_value_short}

-- each byte is a digit
pub digit_here : (ds : List ℕ) (i : ℕ) → AllDigits 10 ds → i < length ds → digit_value (get_or ds i 0) < 10
digit_here [] i all h = absurd (omega arith)
digit_here (d ∷ ds) zero all h = all.0
digit_here (d ∷ ds) (suc i) all h = digit_here ds i all.1 (omega arith)

-- few digits write a small number
pub small_value : (ds : List ℕ) → AllDigits 10 ds → length ds ≤ 7 → digits_value 10 ds < 10_000_000
small_value ds all h = digits_value_short (numerals_by_value (AllDigits 10) tells_digits) ds 7 all h

pub front_small : (ds : List ℕ) (i value : ℕ) → AllDigits 10 (take i ds) → length ds ≤ 7 → value ≡ digits_value 10 (take i ds) → value < 10_000_000
front_small ds i value all h e = omega (arith, small_value (take i ds) all (omega (arith, length-take i ds)))

-- one digit more
pub one_digit : (ds : List ℕ) (i value byte digit : ℕ) → i < length ds → AllDigits 10 (take i ds) → value ≡ digits_value 10 (take i ds) → byte ≡ get_or ds i 0
    → (digit_value byte < 10) × (digit ≡ digit_value byte)
    → AllDigits 10 (take (i + 1) ds) × (value * 10 + digit ≡ digits_value 10 (take (i + 1) ds))
one_digit ds i value byte digit inside all is at h =
    (digits_more 10 ds i inside all (rw (← at) h.0), rw (digits_value_more 10 ds i inside, ← at, ← is, h.1))
