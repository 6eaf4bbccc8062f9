-- Runs of digits with single `_` between them.
use Rattle.std.proofs.Common.{◌≡◌, ◌≢◌, ℕ, ◌≤◌, Bool, true, false, List, [], ◌∷◌, ◌++◌, length, refl, sym, ap, ◌∙◌, inl, inr, arith, append_assoc}
use Rattle.edb_scan.specs.Numerals.{Digits}
use Rattle.edb_scan.specs.DigitFronts.{EndsDigits, IsStep}
use Rattle.edb_scan.proofs.FrontLemmas.{same_front}

pub digits_head : (p : ℕ → Bool) (c : ℕ) (cs : List ℕ) → Digits p (c ∷ cs) → p c ≡ true
digits_head p c [] h = h
digits_head p c (d ∷ ds) h = h.0

pub ends_head : (p : ℕ → Bool) (c : ℕ) (cs : List ℕ) → EndsDigits p (c ∷ cs) → p c ≡ false
ends_head p c [] h = h
ends_head p c (d ∷ ds) h = h.0

-- what is neither a digit nor a `_` ends digits
pub ends_at : (p : ℕ → Bool) (c : ℕ) (cs : List ℕ) → p c ≡ false → c ≢ 95 → EndsDigits p (c ∷ cs)
ends_at p c [] fails other = fails
ends_at p c (d ∷ ds) fails other = (fails, λ gap. absurd (other gap))

-- if digits have ended, neither digits follow, nor a `_` and digits
pub no_digits : (p : ℕ → Bool) (u v w : List ℕ) → u ≡ v ++ w → EndsDigits p u → Digits p v → ⊥
no_digits p u [] w e ends k = k
no_digits p [] (d ∷ v) w e ends k = absurd (cc)
no_digits p (x ∷ u) (d ∷ v) w e ends k =
    let is : p d ≡ true = digits_head p d v k in
    let fails : p x ≡ false = ends_head p x u ends in
    let same : x ≡ d = cc in
    absurd (cc)

pub no_gap : (p : ℕ → Bool) (u v w : List ℕ) → u ≡ 95 ∷ (v ++ w) → EndsDigits p u → Digits p v → ⊥
no_gap p u [] w e ends k = k
no_gap p [] (d ∷ v) w e ends k = absurd (cc)
no_gap p (x ∷ []) (d ∷ v) w e ends k = absurd (cc)
no_gap p (x ∷ y ∷ u) (d ∷ v) w e ends k =
    let is : p d ≡ true = digits_head p d v k in
    let bar : x ≡ 95 = cc in
    let fails : p y ≡ false = ends.1 bar in
    let same : y ≡ d = cc in
    absurd (cc)

module _ (p : ℕ → Bool) (bar : p 95 ≡ false) where
  -- digits that have ended are as long as any
  pub digits_longest : (t u v w : List ℕ) → t ++ u ≡ v ++ w → Digits p t → EndsDigits p u → Digits p v → length v ≤ length t
  digits_longest [] u v w e h ends k = absurd h
  digits_longest (c ∷ t) u [] w e h ends k = absurd k
  digits_longest (c ∷ t) u (d ∷ []) w e h ends k = omega arith
  digits_longest (c ∷ []) u (d ∷ d2 ∷ v) w e h ends k =
      let tails : u ≡ d2 ∷ (v ++ w) = cc in
      elim k.1 [
        | inl more ↦ absurd (no_digits p u (d2 ∷ v) w tails ends more)
        | inr gap ↦ let barred : u ≡ 95 ∷ (v ++ w) = cc gap.0 in absurd (no_gap p u v w barred ends gap.1)
      ]
  digits_longest (c ∷ c2 ∷ t) u (d ∷ d2 ∷ v) w e h ends k =
      let tails : c2 ∷ (t ++ u) ≡ d2 ∷ (v ++ w) = cc in
      let same : c2 ≡ d2 = cc in
      elim h.1 [
        | inl more ↦ elim k.1 [
          | inl more2 ↦ let shorter = digits_longest (c2 ∷ t) u (d2 ∷ v) w tails more ends more2 in omega arith
          | inr gap2 ↦ let is : p c2 ≡ true = digits_head p c2 t more in let barred : c2 ≡ 95 = cc gap2.0 in absurd (cc)
        ]
        | inr gap ↦ elim k.1 [
          | inl more2 ↦ let is : p d2 ≡ true = digits_head p d2 v more2 in let barred : d2 ≡ 95 = cc gap.0 in absurd (cc)
          | inr gap2 ↦ let rests : t ++ u ≡ v ++ w = cc in let shorter = digits_longest t u v w rests gap.1 ends gap2.1 in omega arith
        ]
      ]

  -- so digits that have ended are the same
  pub digits_exact : (t u v w : List ℕ) → t ++ u ≡ v ++ w → Digits p t → EndsDigits p u → Digits p v → EndsDigits p w → (t ≡ v) × (u ≡ w)
  digits_exact t u v w e h ends k ends2 =
      let le = digits_longest t u v w e h ends k in
      let ge = digits_longest v w t u (sym e) k ends2 h in
      same_front t u v w e (omega arith)

-- digits after digits, and digits after a `_` after digits
pub digits_more : (p : ℕ → Bool) (t v : List ℕ) → Digits p t → Digits p v → Digits p (t ++ v)
digits_more p [] v h k = absurd h
digits_more p (c ∷ []) [] h k = absurd k
digits_more p (c ∷ []) (d ∷ v) h k = (h, inl k)
digits_more p (c ∷ c2 ∷ t) v h k =
    elim h.1 [
      | inl more ↦ (h.0, inl (digits_more p (c2 ∷ t) v more k))
      | inr gap ↦ (h.0, inr (gap.0, digits_more p t v gap.1 k))
    ]

pub digits_gap : (p : ℕ → Bool) (t v : List ℕ) → Digits p t → Digits p v → Digits p (t ++ 95 ∷ v)
digits_gap p [] v h k = absurd h
digits_gap p (c ∷ []) v h k = (h, inr (refl, k))
digits_gap p (c ∷ c2 ∷ t) v h k =
    elim h.1 [
      | inl more ↦ (h.0, inl (digits_gap p (c2 ∷ t) v more k))
      | inr gap ↦ (h.0, inr (gap.0, digits_gap p t v gap.1 k))
    ]

-- a run that goes on by one digit
pub digits_go_on : (p : ℕ → Bool) (bytes run rest after : List ℕ) → bytes ≡ run ++ rest → Digits p run → IsStep p rest after → (more : List ℕ) × (bytes ≡ more ++ after) × Digits p more
digits_go_on p bytes run rest after e h (inl step) =
    let shift : (run ++ step.0 ∷ []) ++ after ≡ run ++ step.0 ∷ after = append_assoc run (step.0 ∷ []) after in
    (run ++ step.0 ∷ [], e ∙ ap (λ t. run ++ t) step.2 ∙ sym shift, digits_more p run (step.0 ∷ []) h step.1)
digits_go_on p bytes run rest after e h (inr step) =
    let shift : (run ++ 95 ∷ step.0 ∷ []) ++ after ≡ run ++ 95 ∷ step.0 ∷ after = append_assoc run (95 ∷ step.0 ∷ []) after in
    (run ++ 95 ∷ step.0 ∷ [], e ∙ ap (λ t. run ++ t) step.2 ∙ sym shift, digits_gap p run (step.0 ∷ []) h step.1)
