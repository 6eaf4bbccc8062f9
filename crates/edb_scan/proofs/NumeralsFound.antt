-- Integers and floats: what the scanner finds is the longest of its class.
use Rattle.std.proofs.Common.{◌≡◌, ℕ, ◌≤◌, ◌<◌, ◌^◌, true, false, List, [], ◌∷◌, ◌++◌, length, Option, Some, None, refl, sym, ap, ◌∙◌, subst, inl, inr, arith, append_assoc, append-nil}
use Rattle.std.specs.Prelude.{MatchOption}
use Rattle.std.specs.Borrow.{Bor}
use Rattle.std.specs.Char.{is_digit}
use Rattle.std.proofs.lemmas.Bool.Decides.{nat_tests}
use Rattle.edb_scan.specs.declared.classes.Class.TheVariants.{Digit}
use Rattle.edb_scan.specs.declared.lexeme.Token.{Token}
use Rattle.edb_scan.specs.declared.lexeme.Token.TheVariants.{Int, Float}
use Rattle.edb_scan.specs.FirstByte.{class_of, Heads}
use Rattle.edb_scan.specs.Fronts.{Finds, LongestFront, Stops}
use Rattle.edb_scan.specs.DigitFronts.{SplitsDigits, IsBasedTail, NoBasedTail}
use Rattle.edb_scan.specs.Lexis.{Begins, Fits, Spells}
use Rattle.edb_scan.specs.Numerals.{IsDigits, number, IsFraction}
use Rattle.edb_scan.proofs.ByClass.{NumeralForm}
use Rattle.edb_scan.proofs.DigitRuns.{digits_longest}
use Rattle.edb_scan.proofs.NumeralLemmas.{is_ten, numeral_longest}
use Rattle.edb_scan.proofs.OnePiece.{past_limit}
use Rattle.edb_scan.proofs.ShortKinds.{begins_by}

-- a `_` is a digit of no base
pub bar_no_digit : (base : ℕ) → base ≤ 36 → is_digit 95 base ≡ false
bar_no_digit base low = grind (arith, nat_tests)

-- a form that is no shorter than any other begins the text, after the first digits
form_begins : (bytes whole rest tail after : List ℕ) (p : Option Token) → Heads Digit bytes → SplitsDigits is_ten bytes whole rest → rest ≡ tail ++ after → Spells (whole ++ tail) after p
    → ((others u : List ℕ) (o : Option Token) → rest ≡ others ++ u → NumeralForm whole others o → length others ≤ length tail) → Begins bytes after p
form_begins [] whole rest tail after p head digits e spells longest = absurd head
form_begins (c ∷ cs) whole rest tail after p head digits e spells longest =
    let shift : (whole ++ tail) ++ after ≡ whole ++ (tail ++ after) = append_assoc whole tail after in
    let cut = digits.cut in
    let parts : c ∷ cs ≡ (whole ++ tail) ++ after = cc in
    begins_by Digit c cs (whole ++ tail) after p head parts spells
    (λ t u o f h. numeral_longest whole rest tail digits.digits digits.ends longest t u o (sym digits.cut ∙ f) h)

pub float_found : (bytes whole rest after : List ℕ) → Heads Digit bytes → SplitsDigits is_ten bytes whole rest → LongestFront IsFraction rest after → Begins bytes after (Some Float) × Fits (Some Float)
float_found bytes whole rest after head digits fraction = (
  form_begins bytes whole rest fraction.text after (Some Float) head digits fraction.cut
      (record { whole = whole; fraction = fraction.text; cut = refl; whole_digits = digits.digits; is_fraction = fraction.is }) longest,
  tt,
)
  where
    longest : (others u : List ℕ) (o : Option Token) → rest ≡ others ++ u → NumeralForm whole others o → length others ≤ length fraction.text
    longest others u o e (inl h) = omega (arith, ap length h.0)
    longest others u o e (inr (inl h)) =
        let first = h.cut in let second = fraction.is.cut in let third = fraction.cut in
        let whole' : 35 ∷ (h.digits ++ u) ≡ 46 ∷ ((fraction.is.digits ++ fraction.is.power) ++ after) = cc in
        let bytes' : ◌≡◌ {A = ℕ} 35 46 = cc in
        absurd (omega arith)
    longest others u o e (inr (inr h)) = fraction.longest others u e h.0

pub based_begins : (bytes whole rest run after : List ℕ) (base : ℕ) → Heads Digit bytes → SplitsDigits is_ten bytes whole rest
    → ((front u : List ℕ) → rest ≡ front ++ u → IsFraction front → ⊥) → base ≡ number 10 whole → IsBasedTail base rest run after → Begins bytes after (Some (Int (number base run)))
based_begins bytes whole rest run after base head digits no_fraction is based =
    form_begins bytes whole rest (35 ∷ run) after (Some (Int (number base run))) head digits based.cut
    (inr (record {
      base = whole;
      digits = run;
      cut = refl;
      base_digits = digits.digits;
      at_least_two = omega (arith, is, based.at_least_two);
      at_most_36 = omega (arith, is, based.at_most_36);
      its_digits = (let P : ℕ → Type 0 = λ b. IsDigits b run in subst P is based.its_digits);
      value = ap (λ b. number b run) is;
    })) longest
  where
    longest : (others u : List ℕ) (o : Option Token) → rest ≡ others ++ u → NumeralForm whole others o → length others ≤ length (35 ∷ run)
    longest others u o e (inl h) = omega (arith, ap length h.0)
    longest others u o e (inr (inl h)) =
        let first = h.cut in let second = based.cut in
        let both : 35 ∷ (run ++ after) ≡ 35 ∷ (h.digits ++ u) = cc in
        let same : run ++ after ≡ h.digits ++ u = cc in
        let P : ℕ → Type 0 = λ b. IsDigits b h.digits in
        let shorter = digits_longest (λ c. is_digit c base) (bar_no_digit base based.at_most_36) run after h.digits u same based.its_digits based.ends (subst P (sym is) h.its_digits) in
        omega (arith, ap length h.cut)
    longest others u o e (inr (inr h)) = absurd (no_fraction others u e h.0)

pub decimal_begins : (bytes whole rest : List ℕ) → Heads Digit bytes → SplitsDigits is_ten bytes whole rest
    → ((front u : List ℕ) → rest ≡ front ++ u → IsFraction front → ⊥) → NoBasedTail (number 10 whole) rest → Begins bytes rest (Some (Int (number 10 whole)))
decimal_begins bytes whole rest head digits no_fraction no_base =
    form_begins bytes whole rest [] rest (Some (Int (number 10 whole))) head digits refl
    (let P : List ℕ → Type 0 = λ t. IsDigits 10 t × (number 10 whole ≡ number 10 t) in inl (subst P (sym (append-nil whole)) (digits.digits, refl))) longest
  where
    longest : (others u : List ℕ) (o : Option Token) → rest ≡ others ++ u → NumeralForm whole others o → length others ≤ length {A = ℕ} []
    longest others u o e (inl h) = omega (arith, ap length h.0)
    longest others u o e (inr (inl h)) = absurd (no_base h.digits u (e ∙ ap (λ t. t ++ u) h.cut) h.at_least_two h.at_most_36 h.its_digits)
    longest others u o e (inr (inr h)) = absurd (no_fraction others u e h.0)

-- an integer that begins the text is found, if it is within its limit
pub integer_finds : (bytes after : List ℕ) (n : ℕ) (found : Option (Option Token × Bor (List ℕ))) → Begins bytes after (Some (Int n))
    → MatchOption found (2 ^ 127 ≤ n) (λ x. (x.0 ≡ Some (Int n)) × (x.1.now ≡ after) × (n < 2 ^ 127)) → Finds bytes found
integer_finds bytes after n None begins large = past_limit bytes after (Some (Int n)) begins (λ (fits : n < 2 ^ 127). absurd (omega arith))
integer_finds bytes after n (Some x) begins (is, rest, small) =
    let P : Option Token → Type 0 = λ o. Begins bytes after o × Fits o in
    let Q : List ℕ → Type 0 = λ t. Begins bytes t x.0 × Fits x.0 in
    subst Q (sym rest) (subst P (sym is) (begins, small))

digit_of : (c : ℕ) → class_of c ≡ Digit → is_ten c ≡ true
unfolding class_of
digit_of c h = grind (arith, nat_tests)

pub digits_begin : (bytes : List ℕ) → Heads Digit bytes → Stops is_ten bytes → ⊥
digits_begin [] head stops = head
digits_begin (c ∷ cs) head stops =
    let is = digit_of c head in
    let fails : is_ten c ≡ false = stops in
    absurd (cc)
