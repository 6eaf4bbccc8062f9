-- A number's first digits settle what it is: what stands after them is nothing, a `#` and digits, or a fraction.
use Rattle.std.proofs.Common.{◌≡◌, ◌⊎◌, ℕ, suc, ◌≤◌, ◌<◌, ◌+◌, ◌*◌, get_or, drop, drop-cons, Bool, true, false, List, [], ◌∷◌, ◌++◌, length, Option, Some, refl, sym, ap, ◌∙◌, subst, inl, inr, ⊎_elim, arith, length-append, append_assoc}
use Rattle.std.specs.Prelude.{◌==◌}
use Rattle.std.specs.Char.{is_digit, digit_value}
use Rattle.std.proofs.Math.Nat.{mul-le-mul_left}
use Rattle.std.proofs.lemmas.Bool.{cases_Bool, cond-false, ne_eqb}
use Rattle.edb_scan.specs.declared.lexeme.Token.{Token}
use Rattle.edb_scan.specs.declared.lexeme.Token.TheVariants.{Int}
use Rattle.edb_scan.specs.Numerals.{IsDigits, number, number_after}
use Rattle.edb_scan.specs.DigitFronts.{EndsDigits}
use Rattle.edb_scan.proofs.DigitRuns.{ends_at, digits_longest, digits_exact}
use Rattle.edb_scan.proofs.ByClass.{NumeralForm, IsNumeral}

abbrev pub is_ten : ℕ → Bool
is_ten c = is_digit c 10

form_ends : (whole tail : List ℕ) (piece : Option Token) → NumeralForm whole tail piece → EndsDigits is_ten tail
form_ends whole tail piece (inl h) = let P : List ℕ → Type 0 = λ t. EndsDigits is_ten t in subst P (sym h.0) tt
form_ends whole tail piece (inr (inl h)) = let P : List ℕ → Type 0 = λ t. EndsDigits is_ten t in subst P (sym h.cut) (ends_at is_ten 35 h.digits refl (λ e. absurd (omega arith)))
form_ends whole tail piece (inr (inr h)) = let P : List ℕ → Type 0 = λ t. EndsDigits is_ten t in subst P (sym h.0.cut) (ends_at is_ten 46 (h.0.digits ++ h.0.power) refl (λ e. absurd (omega arith)))

form_ends_more : (whole tail w : List ℕ) (piece : Option Token) → NumeralForm whole tail piece → (tail ≡ []) ⊎ EndsDigits is_ten (tail ++ w)
form_ends_more whole tail w piece (inl h) = inl h.0
form_ends_more whole tail w piece (inr (inl h)) = let P : List ℕ → Type 0 = λ t. EndsDigits is_ten (t ++ w) in inr (subst P (sym h.cut) (ends_at is_ten 35 (h.digits ++ w) refl (λ e. absurd (omega arith))))
form_ends_more whole tail w piece (inr (inr h)) = let P : List ℕ → Type 0 = λ t. EndsDigits is_ten (t ++ w) in inr (subst P (sym h.0.cut) (ends_at is_ten 46 ((h.0.digits ++ h.0.power) ++ w) refl (λ e. absurd (omega arith))))

form_one : (whole tail more others : List ℕ) (p q : Option Token) → whole ≡ more → tail ≡ others → NumeralForm whole tail p → NumeralForm more others q → p ≡ q
form_one whole tail more others p q e f (inl h) (inl k) = h.1 ∙ ap (λ w. Some (Int (number 10 w))) e ∙ sym k.1
form_one whole tail more others p q e f (inl h) (inr (inl k)) = let first = h.0 in let second = k.cut in absurd (cc)
form_one whole tail more others p q e f (inl h) (inr (inr k)) = let first = h.0 in let second = k.0.cut in absurd (cc)
form_one whole tail more others p q e f (inr (inl h)) (inl k) = let first = h.cut in let second = k.0 in absurd (cc)
form_one whole tail more others p q e f (inr (inl h)) (inr (inl k)) =
    let first = h.cut in let second = k.cut in
    let digits : h.digits ≡ k.digits = cc in
    h.value ∙ ap (λ w. Some (Int (number (number 10 w) h.digits))) e ∙ ap (λ ds. Some (Int (number (number 10 more) ds))) digits ∙ sym k.value
form_one whole tail more others p q e f (inr (inl h)) (inr (inr k)) = let first = h.cut in let second = k.0.cut in let bytes : ◌≡◌ {A = ℕ} 35 46 = cc in absurd (omega arith)
form_one whole tail more others p q e f (inr (inr h)) (inl k) = let first = h.0.cut in let second = k.0 in absurd (cc)
form_one whole tail more others p q e f (inr (inr h)) (inr (inl k)) = let first = h.0.cut in let second = k.cut in let bytes : ◌≡◌ {A = ℕ} 46 35 = cc in absurd (omega arith)
form_one whole tail more others p q e f (inr (inr h)) (inr (inr k)) = h.1 ∙ sym k.1

pub numeral_one : (text : List ℕ) (p q : Option Token) → IsNumeral text p → IsNumeral text q → p ≡ q
numeral_one text p q h k =
    let same = digits_exact is_ten refl h.whole h.tail k.whole k.tail (sym h.cut ∙ k.cut) h.digits (form_ends h.whole h.tail p h.form) k.digits (form_ends k.whole k.tail q k.form) in
    form_one h.whole h.tail k.whole k.tail p q same.0 same.1 h.form k.form

-- after digits that have ended, the longest form makes the longest number
pub numeral_longest : (whole rest tail : List ℕ) → IsDigits 10 whole → EndsDigits is_ten rest
    → ((others u : List ℕ) (p : Option Token) → rest ≡ others ++ u → NumeralForm whole others p → length others ≤ length tail)
    → (t u : List ℕ) (p : Option Token) → whole ++ rest ≡ t ++ u → IsNumeral t p → length t ≤ length (whole ++ tail)
numeral_longest whole rest tail h ends longest t u p e k =
    let shift : (k.whole ++ k.tail) ++ u ≡ k.whole ++ (k.tail ++ u) = append_assoc k.whole k.tail u in
    let cut = k.cut in
    let both : whole ++ rest ≡ k.whole ++ (k.tail ++ u) = cc in
    ⊎_elim
    (λ (none : k.tail ≡ []).
    let shorter = digits_longest is_ten refl whole rest k.whole (k.tail ++ u) both h ends k.digits in
    omega (arith, ap length k.cut, ap length none, length-append k.whole k.tail, length-append whole tail))
    (λ (more : EndsDigits is_ten (k.tail ++ u)).
    let same = digits_exact is_ten refl whole rest k.whole (k.tail ++ u) both h ends k.digits more in
    let P : List ℕ → Type 0 = λ w. NumeralForm w k.tail p in
    let shorter = longest k.tail u p same.1 (subst P (sym same.0) k.form) in
    omega (arith, ap length k.cut, ap length same.0, length-append k.whole k.tail, length-append whole tail))
    (form_ends_more k.whole k.tail u p k.form)

-- more digits never make a number smaller
number_grows : (base n : ℕ) (cs : List ℕ) → 0 < base → n ≤ number_after base n cs
number_grows base n [] some = omega arith
number_grows base n (c ∷ cs) some =
    ⊎_elim
    (λ (gap : (c == 95) ≡ true). rw gap (number_grows base n cs some))
    (λ (digit : (c == 95) ≡ false).
    let further = number_grows base (n * base + digit_value c) cs some in
    let product : n * 1 ≤ n * base = mul-le-mul_left n (let one : 1 ≤ base = omega arith in one) in
    rw digit (omega arith))
    (cases_Bool (c == 95))

-- a number is too large once its digits so far are
pub number_too_large : (base n bound : ℕ) (text : List ℕ) (i : ℕ) → 0 < base → i < length text → (get_or text i 0 ≡ 95 → ⊥)
    → number base text ≡ number_after base n (drop i text) → bound ≤ n * base + digit_value (get_or text i 0) → bound ≤ number base text
number_too_large base n bound text i some lt digit so_far large =
    let grows = number_grows base (n * base + digit_value (get_or text i 0)) (drop (suc i) text) some in
    let whole : number_after base n (drop i text) ≡ number_after base n (get_or text i 0 ∷ drop (suc i) text) = ap (λ t. number_after base n t) (drop-cons text i 0 lt) in
    let step : number_after base n (get_or text i 0 ∷ drop (suc i) text) ≡ number_after base (n * base + digit_value (get_or text i 0)) (drop (suc i) text)
    = cond-false (get_or text i 0 == 95) _ _ (ne_eqb (get_or text i 0) 95 digit) in
    omega arith
