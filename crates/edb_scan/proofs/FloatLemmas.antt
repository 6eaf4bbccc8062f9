-- A float's power and its fraction: what the scanner finds is the longest.
use Rattle.std.proofs.Common.{◌≡◌, ◌≢◌, ◌⊎◌, ℕ, ◌≤◌, ◌+◌, true, false, List, [], ◌∷◌, ◌++◌, length, refl, sym, ap, ◌∙◌, subst, inl, inr, ⊎_elim, arith, length-append, append_assoc, append-nil}
use Rattle.edb_scan.specs.Numerals.{IsDigits, IsSign, IsPower, IsFraction}
use Rattle.edb_scan.specs.Fronts.{Stops, LongestFront}
use Rattle.edb_scan.specs.DigitFronts.{EndsDigits, SplitsDigits, SplitsSign}
use Rattle.edb_scan.proofs.DigitRuns.{digits_head, ends_at, digits_longest, digits_exact}
use Rattle.edb_scan.proofs.NumeralLemmas.{is_ten}

-- the byte of a sign is no digit
no_sign_digit : (c : ℕ) → (c ≡ 43) ⊎ (c ≡ 45) → is_ten c ≡ false
no_sign_digit c (inl e) = rw e
no_sign_digit c (inr e) = rw e

-- which sign stands before digits is settled
sign_one : (rest signless sign ds u : List ℕ) → SplitsSign rest signless → IsSign sign → IsDigits 10 ds → rest ≡ sign ++ (ds ++ u) → (signless ≡ ds ++ u) × (length rest ≡ length sign + length signless)
sign_one rest signless sign [] u split is digits e = absurd digits
sign_one rest signless sign (d ∷ ds) u (inl h) (inl none) digits e =
    let whole : h.0 ∷ signless ≡ d ∷ (ds ++ u) = sym h.1 ∙ e ∙ ap (λ t. t ++ (d ∷ ds ++ u)) none in
    let same : h.0 ≡ d = cc in
    let is_digit : is_ten d ≡ true = digits_head is_ten d ds digits in
    let no_digit : is_ten h.0 ≡ false = no_sign_digit h.0 h.2 in
    absurd (cc)
sign_one rest signless sign (d ∷ ds) u (inl h) (inr (inl plus)) digits e =
    let whole : h.0 ∷ signless ≡ 43 ∷ (d ∷ ds ++ u) = sym h.1 ∙ e ∙ ap (λ t. t ++ (d ∷ ds ++ u)) plus in
    (cc, omega (arith, ap length h.1, ap length plus))
sign_one rest signless sign (d ∷ ds) u (inl h) (inr (inr minus)) digits e =
    let whole : h.0 ∷ signless ≡ 45 ∷ (d ∷ ds ++ u) = sym h.1 ∙ e ∙ ap (λ t. t ++ (d ∷ ds ++ u)) minus in
    (cc, omega (arith, ap length h.1, ap length minus))
sign_one rest signless sign (d ∷ ds) u (inr h) (inl none) digits e =
    (h.0 ∙ e ∙ ap (λ t. t ++ (d ∷ ds ++ u)) none, omega (arith, ap length h.0, ap length none))
sign_one [] signless sign (d ∷ ds) u (inr h) (inr (inl plus)) digits e = absurd (omega (arith, ap length e, length-append sign (d ∷ ds ++ u)))
sign_one (c ∷ rest) signless sign (d ∷ ds) u (inr h) (inr (inl plus)) digits e =
    let whole : c ∷ rest ≡ 43 ∷ (d ∷ ds ++ u) = e ∙ ap (λ t. t ++ (d ∷ ds ++ u)) plus in
    let same : c ≡ 43 = cc in
    let stops : true ≡ false = rw same at h.1 in
    absurd (cc)
sign_one [] signless sign (d ∷ ds) u (inr h) (inr (inr minus)) digits e = absurd (omega (arith, ap length e, length-append sign (d ∷ ds ++ u)))
sign_one (c ∷ rest) signless sign (d ∷ ds) u (inr h) (inr (inr minus)) digits e =
    let whole : c ∷ rest ≡ 45 ∷ (d ∷ ds ++ u) = e ∙ ap (λ t. t ++ (d ∷ ds ++ u)) minus in
    let same : c ≡ 45 = cc in
    let stops : true ≡ false = rw same at h.1 in
    absurd (cc)

-- the sign before what comes after it
sign_of : (rest signless : List ℕ) → SplitsSign rest signless → (sign : List ℕ) × IsSign sign × (rest ≡ sign ++ signless)
sign_of rest signless (inl (c, e, inl plus)) = (c ∷ [], inr (inl (ap (λ x. x ∷ []) plus)), e)
sign_of rest signless (inl (c, e, inr minus)) = (c ∷ [], inr (inr (ap (λ x. x ∷ []) minus)), e)
sign_of rest signless (inr h) = ([], inl refl, sym h.0)

-- what another power makes of the same text
power_parts : (bytes rest signless front u : List ℕ) (letter : ℕ) → bytes ≡ letter ∷ rest → SplitsSign rest signless → bytes ≡ front ++ u → (k : IsPower front)
    → (signless ≡ k.digits ++ u) × (length rest ≡ length k.sign + length signless)
power_parts bytes rest signless front u letter e split f k =
    let cut = k.cut in
    let shift : (k.sign ++ k.digits) ++ u ≡ k.sign ++ (k.digits ++ u) = append_assoc k.sign k.digits u in
    let whole : letter ∷ rest ≡ k.letter ∷ ((k.sign ++ k.digits) ++ u) = cc in
    let inner : rest ≡ k.sign ++ (k.digits ++ u) = cc in
    sign_one rest signless k.sign k.digits u split k.is_sign k.are_digits inner

pub power_found : (bytes rest signless run after : List ℕ) (letter : ℕ) → bytes ≡ letter ∷ rest → (letter ≡ 101) ⊎ (letter ≡ 69) → SplitsSign rest signless → SplitsDigits is_ten signless run after → LongestFront IsPower bytes after
power_found bytes rest signless run after letter e is split digits =
    let signed = sign_of rest signless split in
    let shift : (signed.0 ++ run) ++ after ≡ signed.0 ++ (run ++ after) = append_assoc signed.0 run after in
    let from = signed.2 in
    let inner = digits.cut in
    record {
      text = letter ∷ (signed.0 ++ run);
      cut = cc;
      is = record { letter = letter; sign = signed.0; digits = run; cut = refl; is_e = is; is_sign = signed.1; are_digits = digits.digits };
      longest = λ front u f k.
          let parts = power_parts bytes rest signless front u letter e split f k in
          let same : run ++ after ≡ k.digits ++ u = sym digits.cut ∙ parts.0 in
          let shorter = digits_longest is_ten refl run after k.digits u same digits.digits digits.ends k.are_digits in
          omega (arith, ap length k.cut, length-append k.sign k.digits, length-append signed.0 run, ap length signed.2, length-append signed.0 signless, parts.1);
    }

pub no_power : (bytes rest signless : List ℕ) (letter : ℕ) → bytes ≡ letter ∷ rest → SplitsSign rest signless → Stops is_ten signless → (front u : List ℕ) → bytes ≡ front ++ u → IsPower front → ⊥
no_power bytes rest signless letter e split stops front u f k =
    no_digits signless k.digits (power_parts bytes rest signless front u letter e split f k).0 stops k.are_digits
  where
    no_digits : (s ds : List ℕ) → s ≡ ds ++ u → Stops is_ten s → IsDigits 10 ds → ⊥
    no_digits s [] g st d = d
    no_digits [] (c ∷ ds) g st d = absurd (cc)
    no_digits (x ∷ s) (c ∷ ds) g st d =
        let same : x ≡ c = cc in
        let is_digit : is_ten c ≡ true = digits_head is_ten c ds d in
        let fails : is_ten x ≡ false = st in
        absurd (cc)

-- a power ends the digits before it
power_ends : (power u : List ℕ) → IsPower power → EndsDigits is_ten (power ++ u)
power_ends power u k =
    let P : List ℕ → Type 0 = λ t. EndsDigits is_ten (t ++ u) in
    subst P (sym k.cut) (ends_at is_ten k.letter ((k.sign ++ k.digits) ++ u) (no_digit k.letter k.is_e) (no_bar k.letter k.is_e))
  where
    no_digit : (c : ℕ) → (c ≡ 101) ⊎ (c ≡ 69) → is_ten c ≡ false
    no_digit c (inl e) = rw e
    no_digit c (inr e) = rw e

    no_bar : (c : ℕ) → (c ≡ 101) ⊎ (c ≡ 69) → c ≢ 95
    no_bar c (inl e) f = absurd (omega arith)
    no_bar c (inr e) f = absurd (omega arith)

-- after a point and digits that have ended, the longest power makes the longest fraction
fraction_longest : (bytes rest run after power : List ℕ) → bytes ≡ 46 ∷ rest → SplitsDigits is_ten rest run after
    → ((front u : List ℕ) → after ≡ front ++ u → IsPower front → length front ≤ length power)
    → (front u : List ℕ) → bytes ≡ front ++ u → IsFraction front → length front ≤ length (46 ∷ (run ++ power))
fraction_longest bytes rest run after power e digits longest front u f k =
    let cut = k.cut in
    let inner = digits.cut in
    let shift : (k.digits ++ k.power) ++ u ≡ k.digits ++ (k.power ++ u) = append_assoc k.digits k.power u in
    let whole : 46 ∷ rest ≡ 46 ∷ ((k.digits ++ k.power) ++ u) = cc in
    let same : run ++ after ≡ k.digits ++ (k.power ++ u) = cc in
    ⊎_elim
    (λ (none : k.power ≡ []).
    let shorter = digits_longest is_ten refl run after k.digits (k.power ++ u) same digits.digits digits.ends k.are_digits in
    omega (arith, ap length k.cut, ap length none, length-append k.digits k.power, length-append run power))
    (λ (more : IsPower k.power).
    let exact = digits_exact is_ten refl run after k.digits (k.power ++ u) same digits.digits digits.ends k.are_digits (power_ends k.power u more) in
    let shorter = longest k.power u exact.1 more in
    omega (arith, ap length k.cut, ap length exact.0, length-append k.digits k.power, length-append run power))
    k.power_or_none

pub fraction_with_power : (bytes rest run after end : List ℕ) → bytes ≡ 46 ∷ rest → SplitsDigits is_ten rest run after → LongestFront IsPower after end → LongestFront IsFraction bytes end
fraction_with_power bytes rest run after end e digits power =
    let shift : (run ++ power.text) ++ end ≡ run ++ (power.text ++ end) = append_assoc run power.text end in
    let inner = digits.cut in
    let more = power.cut in
    record {
      text = 46 ∷ (run ++ power.text);
      cut = cc;
      is = record { digits = run; power = power.text; cut = refl; are_digits = digits.digits; power_or_none = inr power.is };
      longest = fraction_longest bytes rest run after power.text e digits power.longest;
    }

pub fraction_without : (bytes rest run after : List ℕ) → bytes ≡ 46 ∷ rest → SplitsDigits is_ten rest run after → ((front u : List ℕ) → after ≡ front ++ u → IsPower front → ⊥) → LongestFront IsFraction bytes after
fraction_without bytes rest run after e digits none =
    let shift : run ++ [] ≡ run = append-nil run in
    let inner = digits.cut in
    record {
      text = 46 ∷ (run ++ []);
      cut = cc;
      is = record { digits = run; power = []; cut = refl; are_digits = digits.digits; power_or_none = inl refl };
      longest = fraction_longest bytes rest run after [] e digits (λ front u f k. absurd (none front u f k));
    }
