-- What needs no test of the range: bits and shifts to the right keep an integer in it.

use Rattle.std.proofs.Common.{◌≡◌, ℕ, ◌/◌, ◌^◌, ◌<◌, ℤ, pos, negsuc, Bool, true, false, ltb, suc, ◌-◌, refl, arith}
use Rattle.std.proofs.Math.Nat.{lt_of_le_of_lt, div-le_self}
use Rattle.std.proofs.lemmas.Bool.{lt-ltb, ltb-true, ltb-false}
use Rattle.std.specs.Int.{w128, cast_signed}
use Rattle.std.specs.Int.Signed.{shr_z as shifted_down}
use Rattle.edb_pure.specs.Integers.{fits}
use Rattle.edb_pure.specs.Bits.{complement}

pub complement_fits : (i : ℤ) → fits i ≡ true → fits (complement i) ≡ true
complement_fits (pos n) e = e
complement_fits (negsuc n) e = e

divided : (n m : ℕ) → ltb n (2 ^ 127) ≡ true → ltb (n / m) (2 ^ 127) ≡ true
divided n m e = lt-ltb (n / m) (2 ^ 127) (lt_of_le_of_lt (div-le_self n m) (ltb-true n (2 ^ 127) e))

pub down_fits : (i : ℤ) (m : ℕ) → fits i ≡ true → fits (shifted_down i m) ≡ true
down_fits (pos n) m e = divided n m e
down_fits (negsuc n) m e = divided n m e

-- the integer that 128 bits are
pub bits_fit : (n : ℕ) → n < 2 ^ 128 → fits (cast_signed w128 n) ≡ true
bits_fit n h = by (ltb n (2 ^ 127)) refl
  where
    by : (b : Bool) → ltb n (2 ^ 127) ≡ b → fits (cast_signed w128 n) ≡ true
    by true e = rw e e
    by false e = rw e (lt-ltb (2 ^ 128 - suc n) (2 ^ 127) (let up = ltb-false n (2 ^ 127) e in omega arith))
