-- Totals: a sum as a value in the range, and how often it went over the range and under it by 2^128.

use Rattle.std.specs.Prelude.{◌≡◌, ℕ, ◌*◌, ◌^◌, ◌-◌, ℤ, pos, negsuc, ◌+ℤ◌, ◌-ℤ◌, refl}

-- the sum
abbrev pub total_of : ℤ → ℕ → ℕ → ℤ
total_of value over under = (value +ℤ pos (over * 2 ^ 128)) -ℤ pos (under * 2 ^ 128)

-- the greatest integer twice is over the range once
twice_greatest : total_of (negsuc 1) 1 0 ≡ pos (2 ^ 128 - 2)
twice_greatest = refl

-- the least integer twice is under it once
twice_least : total_of (pos 0) 0 1 ≡ negsuc (2 ^ 128 - 1)
twice_least = refl
