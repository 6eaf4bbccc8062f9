-- Shifts by more than 128 places: a shift by 128 places, as the definitions have it, gives what a shift by all gives.

use Rattle.std.proofs.Common.{◌≡◌, ℕ, zero, suc, ◌*◌, ◌/◌, ◌^◌, ◌≤◌, ◌<◌, ℤ, pos, negsuc, neg_ℤ, ◌*ℤ◌, true, if◌then◌else◌, Ok, sym, ap, ◌∙◌, ⊎_elim, arith}
use Rattle.std.proofs.Math.Nat.{le_trans, le_of_lt, lt_of_lt_of_le, mul-le-mul, min-eq_left, min-eq_right, zero-mul, div-eq_of_lt}
use Rattle.std.proofs.Math.Pow.{pow_mono}
use Rattle.std.proofs.lemmas.Bool.{le-ltb, ltb-true, cases_lt}
use Rattle.std.specs.Int.Signed.{shr_z as shifted_down}
use Rattle.edb_lang.specs.Terms.{int}
use Rattle.edb_pure.specs.Answers.{Answer, system_limit}
use Rattle.edb_pure.specs.Integers.{fits, integer_answer}
use Rattle.edb_pure.specs.Bits.{up, down}

-- an integer so far from 0 is out of the range
pub far_above : (n : ℕ) → 2 ^ 128 ≤ n → integer_answer (pos n) ≡ system_limit
far_above n h = ap (λ b. if b then Ok (int (pos n)) else system_limit) (le-ltb n (2 ^ 127) (omega arith))

pub far_below : (n : ℕ) → 2 ^ 128 ≤ n → integer_answer (neg_ℤ (pos n)) ≡ system_limit
far_below zero h = let impossible : ⊥ = omega arith in absurd impossible
far_below (suc n) h = ap (λ b. if b then Ok (int (negsuc n)) else system_limit) (le-ltb n (2 ^ 127) (omega arith))

-- an integer other than 0 comes so far by 128 places
pub far_product : (n k : ℕ) → 128 ≤ k → 2 ^ 128 ≤ suc n * 2 ^ k
far_product n k h = mul-le-mul {n₁ = 1} {m₁ = 2 ^ 128} {n₂ = suc n} {m₂ = 2 ^ k} (omega arith) (pow_mono h)

-- an integer of the range is less than that
in_range : (n k : ℕ) → 128 ≤ k → n < 2 ^ 127 → n / 2 ^ k ≡ 0
in_range n k h small = div-eq_of_lt (lt_of_lt_of_le small (le_trans (pow_mono {i = 127} {j = 128} (omega arith)) (pow_mono h)))

module _ (k : ℕ) (h : 128 ≤ k) where
  -- both products are out of the range, or 0
  up_far : (i : ℤ) → integer_answer (i *ℤ pos (2 ^ 128)) ≡ integer_answer (i *ℤ pos (2 ^ k))
  up_far (pos zero) = ap (λ n. integer_answer (pos n)) (sym (zero-mul (2 ^ k)))
  up_far (pos (suc n)) = far_above (suc n * 2 ^ 128) (far_product n 128 (omega arith)) ∙ sym (far_above (suc n * 2 ^ k) (far_product n k h))
  up_far (negsuc n) = far_below (suc n * 2 ^ 128) (far_product n 128 (omega arith)) ∙ sym (far_below (suc n * 2 ^ k) (far_product n k h))

  -- both quotients are 0, or both are -1
  down_far : (i : ℤ) → fits i ≡ true → shifted_down i (2 ^ 128) ≡ shifted_down i (2 ^ k)
  down_far (pos n) e = ap pos (in_range n 128 (omega arith) (ltb-true n (2 ^ 127) e) ∙ sym (in_range n k h (ltb-true n (2 ^ 127) e)))
  down_far (negsuc n) e = ap negsuc (in_range n 128 (omega arith) (ltb-true n (2 ^ 127) e) ∙ sym (in_range n k h (ltb-true n (2 ^ 127) e)))

-- To the left: the product with 2^k, or `system_limit` if it is out of the range.
pub up_is : (i : ℤ) (k : ℕ) → up i k ≡ integer_answer (i *ℤ pos (2 ^ k))
up_is i k = ⊎_elim (λ near. ap (λ n. integer_answer (i *ℤ pos (2 ^ n))) (min-eq_left (le_of_lt near))) (λ far. ap (λ n. integer_answer (i *ℤ pos (2 ^ n))) (min-eq_right far) ∙ up_far k far i) (cases_lt k 128)

-- To the right, of an integer of the range: the quotient by 2^k, rounded down.
pub down_is : (i : ℤ) (k : ℕ) → fits i ≡ true → down i k ≡ Ok (int (shifted_down i (2 ^ k)))
down_is i k e = ⊎_elim (λ near. ap {B = Answer} (λ n. Ok (int (shifted_down i (2 ^ n)))) (min-eq_left (le_of_lt near))) (λ far. ap {B = Answer} (λ n. Ok (int (shifted_down i (2 ^ n)))) (min-eq_right far) ∙ ap {B = Answer} (λ j. Ok (int j)) (down_far k far i e)) (cases_lt k 128)
