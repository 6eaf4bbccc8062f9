-- Numbers: what is read is spelled so, and what was written is read again.

use Rattle.std.proofs.Common.{◌≡◌, ◌≢◌, ℕ, zero, suc, ◌+◌, ◌-◌, ◌*◌, ◌/◌, ◌%◌, ◌^◌, ◌<◌, ◌≤◌, nat_le, true, false, if◌then◌else◌, ◌&&◌, ◌==◌, List, [], ◌∷◌, ◌++◌, None, Some, refl, sym, ap, ◌∙◌, subst, arith, append_assoc}
use Rattle.std.specs.Char.{is_ascii_digit}
use Rattle.std.specs.Fmt.{decimal}
use Rattle.std.proofs.lemmas.Bool.{eqb-true, leb-true}
use Rattle.std.proofs.lemmas.Bool.Decides.{nat_tests}
use Rattle.std.proofs.lemmas.Fmt.{decimal_digit, decimal_step_wide, decimal_by_steps_wide}
use Rattle.edb_fields.specs.Chain.{◌>>=◌}
use Rattle.edb_fields.specs.Fronts.{IsFront}
use Rattle.edb_fields.specs.Numerals.{IsBetween, digit_on, digits_at, numeral_at, number_at}
use Rattle.edb_fields.specs.Reading.{space_at}
use Rattle.edb_fields.specs.Separators.{ends}
use Rattle.edb_fields.proofs.Chains.{none_some, same_some, taken, passed, either_read, both, got, false_true, space_is}
use Rattle.edb_fields.proofs.Told.{Exact}

-- the digits end here
abbrev pub NoDigit : List ℕ → Type 0
NoDigit [] = Unit {0}
NoDigit (c ∷ cs) = is_ascii_digit c ≡ false

pub no_digit_at_end : (rest : List ℕ) → ends rest ≡ true → NoDigit rest
no_digit_at_end [] h = tt
no_digit_at_end (c ∷ cs) h = grind (arith, nat_tests)

-- one more digit at the end
pub decimal_more : (n d : ℕ) → 1 ≤ n → d < 10 → n * 10 + d < 10 ^ 64 → decimal (n * 10 + d) ≡ decimal n ++ (48 + d) ∷ []
decimal_more n d some small wide =
    let front : (n * 10 + d) / 10 ≡ n = omega arith in
    let last : (n * 10 + d) % 10 ≡ d = omega arith in
    decimal_step_wide (n * 10 + d) (omega arith) wide ∙ ap (λ m. decimal m ++ (48 + (n * 10 + d) % 10) ∷ []) front
    ∙ ap (λ m. decimal n ++ (48 + m) ∷ []) last

digit_is : (c : ℕ) → is_ascii_digit c ≡ true → (48 ≤ c) × (c ≤ 57)
digit_is c h = grind (arith, nat_tests)

-- The digits after n: what was read is n's decimal with them.
pub digits_sound : (most : ℕ) → most < 10 ^ 64 → (n : ℕ) (cs : List ℕ) (m : ℕ) (rest : List ℕ) → 1 ≤ n → n ≤ most
    → digits_at most n cs ≡ Some (m, rest) → (decimal n ++ cs ≡ decimal m ++ rest) × (m ≤ most)
digits_sound most wide n [] m rest some small e =
    let p = same_some e in (ap (λ x. decimal x.0 ++ x.1) p, subst (λ x. x ≤ most) (ap (λ x. x.0) p) small)
digits_sound most wide n (c ∷ cs) m rest some small e =
    either_read (is_ascii_digit c) (digit_on most n c >>= (λ k. digits_at most k cs)) (got n (c ∷ cs)) e (more (λ k. digits_sound most wide k cs m rest)) last
  where
    last : is_ascii_digit c ≡ false → got n (c ∷ cs) ≡ got m rest → (decimal n ++ c ∷ cs ≡ decimal m ++ rest) × (m ≤ most)
    last h e = let p = same_some e in (ap (λ x. decimal x.0 ++ x.1) p, subst (λ x. x ≤ most) (ap (λ x. x.0) p) small)

    more : ((k : ℕ) → 1 ≤ k → k ≤ most → digits_at most k cs ≡ Some (m, rest) → (decimal k ++ cs ≡ decimal m ++ rest) × (m ≤ most))
        → is_ascii_digit c ≡ true → (digit_on most n c >>= (λ k. digits_at most k cs)) ≡ Some (m, rest) → (decimal n ++ c ∷ cs ≡ decimal m ++ rest) × (m ≤ most)
    more others h e = taken (digit_on most n c) (λ k. digits_at most k cs) e (λ k f g.
        let d = digit_is c h in
        let p = passed (nat_le (n * 10 + (c - 48)) most) f in
        let fits : n * 10 + (c - 48) ≤ most = leb-true (n * 10 + (c - 48)) most p.0 in
        let same : 48 + (c - 48) ≡ c = omega (arith, d.0) in
        let spelled : decimal (n * 10 + (c - 48)) ≡ decimal n ++ c ∷ [] =
        decimal_more n (c - 48) some (omega (arith, d.0, d.1)) (omega (arith, fits, wide)) ∙ ap (λ b. decimal n ++ b ∷ []) same in
        let rest_of = others k (subst (λ x. 1 ≤ x) p.1 (omega (arith, some))) (subst (λ x. x ≤ most) p.1 fits) g in
        (sym (append_assoc (decimal n) (c ∷ []) cs) ∙ ap (λ x. x ++ cs) (sym spelled ∙ ap decimal p.1) ∙ rest_of.0, rest_of.1))

pub numeral_sound : (most : ℕ) → most < 10 ^ 64 → (bytes : List ℕ) (m : ℕ) (rest : List ℕ) → numeral_at most bytes ≡ Some (m, rest) → (bytes ≡ decimal m ++ rest) × (m ≤ most)
numeral_sound most wide [] m rest e = absurd (none_some e)
numeral_sound most wide (c ∷ cs) m rest e = either_read (c == 48) (got 0 cs) (if is_ascii_digit c then digits_at most 0 (c ∷ cs) else None) e zero_alone others
  where
    zero_alone : (c == 48) ≡ true → got 0 cs ≡ got m rest → (c ∷ cs ≡ decimal m ++ rest) × (m ≤ most)
    zero_alone h e =
        let p = same_some e in
        let spelled : decimal 0 ≡ 48 ∷ [] = decimal_digit 0 (omega arith) in
        (ap (λ d. d ∷ cs) (eqb-true c 48 h) ∙ ap (λ d. d ++ cs) (sym spelled) ∙ ap (λ x. decimal x.0 ++ x.1) p, subst (λ x. x ≤ most) (ap (λ x. x.0) p) (omega arith))

    first : is_ascii_digit c ≡ true → (c == 48) ≡ false → (digit_on most 0 c >>= (λ k. digits_at most k cs)) ≡ Some (m, rest) → (c ∷ cs ≡ decimal m ++ rest) × (m ≤ most)
    first h z e = taken (digit_on most 0 c) (λ k. digits_at most k cs) e (λ k f g.
        let d = digit_is c h in
        let p = passed (nat_le (0 * 10 + (c - 48)) most) f in
        let fits : 0 * 10 + (c - 48) ≤ most = leb-true (0 * 10 + (c - 48)) most p.0 in
        let other : c ≢ 48 = λ same. not_48 same z in
        let value : k ≡ c - 48 = sym p.1 ∙ omega arith in
        let spelled : decimal k ≡ c ∷ [] = ap decimal value ∙ decimal_digit (c - 48) (omega (arith, d.1)) ∙ ap (λ b. b ∷ []) (omega (arith, d.0)) in
        let rest_of = digits_sound most wide k cs m rest (omega (arith, value, d.0, other)) (subst (λ x. x ≤ most) p.1 fits) g in
        (ap (λ b. b ++ cs) (sym spelled) ∙ rest_of.0, rest_of.1))
      where
        not_48 : c ≡ 48 → (c == 48) ≡ false → ⊥
        not_48 same z = grind (arith, nat_tests)

    others : (c == 48) ≡ false → (if is_ascii_digit c then digits_at most 0 (c ∷ cs) else None) ≡ Some (m, rest) → (c ∷ cs ≡ decimal m ++ rest) × (m ≤ most)
    others z e = either_read (is_ascii_digit c) (digits_at most 0 (c ∷ cs)) None e (λ h f.
        either_read (is_ascii_digit c) (digit_on most 0 c >>= (λ k. digits_at most k cs)) (got 0 (c ∷ cs)) f (λ i g. first h z g) (λ i g. absurd (false_true (sym i ∙ h))))
        (λ h f. absurd (none_some f))

-- a digit after k
digit_step : (most k d : ℕ) (rest : List ℕ) → d < 10 → k * 10 + d ≤ most → digits_at most k ((48 + d) ∷ rest) ≡ digits_at most (k * 10 + d) rest
digit_step most k d rest small fits =
    let is : is_ascii_digit (48 + d) ≡ true = grind (arith, nat_tests) in
    let same : 48 + d - 48 ≡ d = omega arith in
    rw is (rw same (rw (le_leb (k * 10 + d) most fits) refl))
  where
    le_leb : (a b : ℕ) → a ≤ b → nat_le a b ≡ true
    le_leb a b h = grind (arith, nat_tests)

-- the digits of a number, from none
pub digits_again : (most n : ℕ) (rest : List ℕ) → n < 10 ^ 64 → n ≤ most → digits_at most 0 (decimal n ++ rest) ≡ digits_at most n rest
digits_again most n rest wide fits = decimal_by_steps_wide Law one more n wide rest fits
  where
    Law : ℕ → List ℕ → Type 0
    Law n ds = (rest : List ℕ) → n ≤ most → digits_at most 0 (ds ++ rest) ≡ digits_at most n rest

    one : (n : ℕ) → n < 10 → Law n ((48 + n) ∷ [])
    one n small rest fits = digit_step most 0 n rest small (omega (arith, fits)) ∙ ap (λ m. digits_at most m rest) (omega arith)

    more : (n : ℕ) (ds : List ℕ) → 10 ≤ n → Law (n / 10) ds → Law n (ds ++ (48 + n % 10) ∷ [])
    more n ds large law rest fits =
        let sum : n / 10 * 10 + n % 10 ≡ n = omega arith in
        ap (λ cs. digits_at most 0 cs) (append_assoc ds ((48 + n % 10) ∷ []) rest) ∙ law ((48 + n % 10) ∷ rest) (omega (arith, fits))
        ∙ digit_step most (n / 10) (n % 10) rest (omega arith) (omega (arith, fits, sum)) ∙ ap (λ m. digits_at most m rest) sum

digits_end : (most n : ℕ) (rest : List ℕ) → NoDigit rest → digits_at most n rest ≡ Some (n, rest)
digits_end most n [] h = refl
digits_end most n (c ∷ cs) h = rw h refl

-- the first digit of a number that is not 0
record Leads (ds : List ℕ) : Type 0 where
  head : ℕ
  others : List ℕ
  is : ds ≡ head ∷ others
  digit : is_ascii_digit head ≡ true
  some : (head == 48) ≡ false

leads : (n : ℕ) → n < 10 ^ 64 → 1 ≤ n → Leads (decimal n)
leads n wide some = decimal_by_steps_wide Law one more n wide some
  where
    Law : ℕ → List ℕ → Type 0
    Law n ds = 1 ≤ n → Leads ds

    one : (n : ℕ) → n < 10 → Law n ((48 + n) ∷ [])
    one n small some = record { head = 48 + n; others = []; is = refl; digit = grind (arith, nat_tests); some = grind (arith, nat_tests) }

    more : (n : ℕ) (ds : List ℕ) → 10 ≤ n → Law (n / 10) ds → Law n (ds ++ (48 + n % 10) ∷ [])
    more n ds large law some =
        let l = law (omega arith) in
        record { head = l.head; others = l.others ++ (48 + n % 10) ∷ []; is = ap (λ xs. xs ++ (48 + n % 10) ∷ []) l.is; digit = l.digit; some = l.some }

pub numeral_again : (most n : ℕ) (rest : List ℕ) → n < 10 ^ 64 → n ≤ most → NoDigit rest → numeral_at most (decimal n ++ rest) ≡ Some (n, rest)
numeral_again most zero rest wide fits h =
    let spelled : decimal 0 ≡ 48 ∷ [] = decimal_digit 0 (omega arith) in
    rw spelled refl
numeral_again most (suc n) rest wide fits h =
    let l = leads (suc n) wide (omega arith) in
    let opened : decimal (suc n) ++ rest ≡ l.head ∷ (l.others ++ rest) = ap (λ ds. ds ++ rest) l.is in
    ap (λ bs. numeral_at most bs) opened ∙ told l.head (l.others ++ rest) l.some l.digit
    ∙ ap (λ bs. digits_at most 0 bs) (sym opened) ∙ digits_again most (suc n) rest wide fits ∙ digits_end most (suc n) rest h
  where
    told : (c : ℕ) (cs : List ℕ) → (c == 48) ≡ false → is_ascii_digit c ≡ true → numeral_at most (c ∷ cs) ≡ digits_at most 0 (c ∷ cs)
    told c cs z d = rw z (rw d refl)

-- a number's field
number_sound : (least most : ℕ) → most < 10 ^ 64 → (bytes : List ℕ) (n : ℕ) (rest : List ℕ) → number_at least most bytes ≡ Some (n, rest) → IsFront decimal (IsBetween least most) bytes n rest
number_sound least most wide bytes n rest e =
    taken (space_at bytes) (λ from. numeral_at most from >>= (λ x. if nat_le least x.0 && ends x.1 then got x.0 x.1 else None)) e
    (λ from s e1. taken (numeral_at most from) (λ x. if nat_le least x.0 && ends x.1 then got x.0 x.1 else None) e1
    (λ x r e2. step x from (space_is bytes from s) (numeral_sound most wide from x.0 x.1 r) e2))
  where
    step : (x : ℕ × List ℕ) (from : List ℕ) → bytes ≡ 32 ∷ from → (from ≡ decimal x.0 ++ x.1) × (x.0 ≤ most)
        → (if nat_le least x.0 && ends x.1 then got x.0 x.1 else None) ≡ Some (n, rest) → IsFront decimal (IsBetween least most) bytes n rest
    step x from s r e =
        let p = passed (nat_le least x.0 && ends x.1) e in
        let t = both (nat_le least x.0) (ends x.1) p.0 in
        let Front : ℕ × List ℕ → Type 0 = λ y. IsFront decimal (IsBetween least most) bytes y.0 y.1 in
        subst Front p.1 (record { parts = s ∙ ap (λ b. 32 ∷ b) r.0; closed = t.1; fits = (leb-true least x.0 t.0, r.1) })

pub number_again : (least most n : ℕ) (rest : List ℕ) → n < 10 ^ 64 → least ≤ n → n ≤ most → ends rest ≡ true → number_at least most (32 ∷ (decimal n ++ rest)) ≡ Some (n, rest)
number_again least most n rest wide low high h =
    rw (numeral_again most n rest wide high (no_digit_at_end rest h)) (rw (le_leb least n low) (rw h refl))
  where
    le_leb : (a b : ℕ) → a ≤ b → nat_le a b ≡ true
    le_leb a b h = grind (arith, nat_tests)

pub number_exact : (least most : ℕ) → most < 10 ^ 64 → (bytes : List ℕ) → Exact decimal (IsBetween least most) bytes (number_at least most bytes)
number_exact least most wide bytes = record {
  sound = number_sound least most wide bytes;
  complete = λ n rest front. ap (λ b. number_at least most b) front.parts ∙ number_again least most n rest (omega (arith, front.fits.1, wide)) front.fits.0 front.fits.1 front.closed;
}
