-- A product in two steps: it is one product, and if the first step is out of the range then so is the whole.

use Rattle.std.proofs.Common.{◌≡◌, ℕ, zero, suc, ◌*◌, ◌/◌, ◌+◌, ◌-◌, ◌^◌, ◌≤◌, ◌<◌, ℤ, pos, negsuc, neg_ℤ, ◌*ℤ◌, FitsSigned, to_z, of_z, refl, sym, ap, ◌∙◌, subst, arith}
use Rattle.std.specs.Int.{w128}
use Rattle.std.proofs.Math.Nat.{mul_assoc, zero-mul, le-mul_of_pos_right}
use Rattle.std.proofs.lemmas.Int.{to_z-of_z}
use Rattle.std.proofs.lemmas.Nat.{pow-add, pow_pos}
use lib.Signed.{mag}

-- the places of both steps are all
pub halves : (p : ℕ) → p / 2 + (p - p / 2) ≡ p
halves p = omega arith

-- a factor as it is passed
pub passed : (z e : ℤ) → FitsSigned w128 z → z ≡ e → to_z w128 (of_z w128 z) ≡ e
passed z e f same = to_z-of_z w128 z f ∙ same

negated : (x n : ℕ) → neg_ℤ (pos x) *ℤ pos n ≡ neg_ℤ (pos (x * n))
negated zero n = rw (zero-mul n) refl
negated (suc x) n = refl

steps : (i : ℤ) (m n : ℕ) → (i *ℤ pos m) *ℤ pos n ≡ i *ℤ pos (m * n)
steps (pos k) m n = ap pos (mul_assoc k m n)
steps (negsuc k) m n = negated (suc k * m) n ∙ ap (λ x. neg_ℤ (pos x)) (mul_assoc (suc k) m n)

-- by 2^a and then by 2^b is by 2^(a + b)
pub in_steps : (i : ℤ) (a b p : ℕ) → a + b ≡ p → (i *ℤ pos (2 ^ a)) *ℤ pos (2 ^ b) ≡ i *ℤ pos (2 ^ p)
in_steps i a b p e = steps i (2 ^ a) (2 ^ b) ∙ ap (λ n. i *ℤ pos n) (sym (pow-add 2 a b)) ∙ ap (λ n. i *ℤ pos (2 ^ n)) e

closer : (x y : ℕ) → x ≤ y → mag (neg_ℤ (pos x)) ≤ mag (neg_ℤ (pos y))
closer zero y h = omega arith
closer (suc x) zero h = absurd (omega arith)
closer (suc x) (suc y) h = omega arith

-- a product with more is as far from 0 or farther
farther : (i : ℤ) (m n : ℕ) → 0 < n → mag (i *ℤ pos m) ≤ mag ((i *ℤ pos m) *ℤ pos n)
farther (pos k) m n h = le-mul_of_pos_right (k * m) h
farther (negsuc k) m n h = rw (negated (suc k * m) n) (closer (suc k * m) (suc k * m * n) (le-mul_of_pos_right (suc k * m) h))

-- if the whole is in the range, the first step is
pub first_fits : (i : ℤ) (a b p : ℕ) → a + b ≡ p → FitsSigned w128 (i *ℤ pos (2 ^ p)) → FitsSigned w128 (i *ℤ pos (2 ^ a))
first_fits i a b p e f =
    let near : mag (i *ℤ pos (2 ^ a)) ≤ mag (i *ℤ pos (2 ^ p)) = subst (λ z. mag (i *ℤ pos (2 ^ a)) ≤ mag z) (in_steps i a b p e) (farther i (2 ^ a) (2 ^ b) (pow_pos b)) in
    record { sfits = omega (arith, f.sfits) }
