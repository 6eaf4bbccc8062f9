-- Integers and floats: their spellings are read again.

use Rattle.std.proofs.Common.{◌≡◌, ◌≢◌, ℕ, ◌+◌, ◌*◌, ◌/◌, ◌%◌, ◌<◌, ◌≤◌, Bool, true, false, ◌&&◌, ◌==◌, List, [], ◌∷◌, ◌++◌, Some, refl, ap, ◌∙◌, subst, arith, decimal, codes, append_assoc}
use Rattle.std.specs.Char.{digit_value}
use Rattle.std.specs.List.{list_all}
use Rattle.std.proofs.lemmas.Bool.{and_from}
use Rattle.std.proofs.lemmas.Bool.Decides.{nat_tests}
use Rattle.std.proofs.lemmas.Fmt.{decimal_by_steps_wide}
use Rattle.std.proofs.lemmas.List.Folds.{list_all-append}
use Rattle.edb_scan.specs.declared.classes.Class.TheVariants.{Digit}
use Rattle.edb_scan.specs.declared.lexeme.Token.TheVariants.{Int, Float}
use Rattle.edb_scan.specs.FirstByte.{class_of, Heads}
use Rattle.edb_scan.specs.Letters.{is_name_char}
use Rattle.edb_scan.specs.Lexis.{Begins, Fits}
use Rattle.edb_scan.specs.Numerals.{IsDigits, number, number_after, IsPower, IsFraction}
use Rattle.edb_scan.specs.DigitFronts.{EndsDigits, SplitsDigits, NoBasedTail}
use Rattle.edb_scan.proofs.DigitRuns.{digits_head, ends_at, digits_more}
use Rattle.edb_scan.proofs.NumeralLemmas.{is_ten}
use Rattle.edb_scan.proofs.NumeralsFound.{decimal_begins, float_found}
use Rattle.edb_scan.proofs.FloatLemmas.{fraction_without}
use Rattle.edb_grammar.specs.Toks.{most_integer}
use Rattle.edb_print.proofs.SpelledEnds.{Leads, leads_on, is_blank, EndsWord}

-- the text is digits alone, at least one, and writes the number n
pub record Numeral (n : ℕ) (text : List ℕ) : Type 0 where
  pub digits : IsDigits 10 text
  pub value : number 10 text ≡ n
  pub alone : list_all is_ten text ≡ true
  pub leads : Leads is_ten text

-- digits write what those after them make of the number that those before them write
number_append : (base n : ℕ) (text more : List ℕ) → number_after base n (text ++ more) ≡ number_after base (number_after base n text) more
number_append base n [] more = refl
number_append base n (c ∷ cs) more = at (c == 95) refl (number_append base n cs more) (number_append base (n * base + digit_value c) cs more)
  where
    at : (b : Bool) → (c == 95) ≡ b → number_after base n (cs ++ more) ≡ number_after base (number_after base n cs) more
        → number_after base (n * base + digit_value c) (cs ++ more) ≡ number_after base (number_after base (n * base + digit_value c) cs) more
        → number_after base n ((c ∷ cs) ++ more) ≡ number_after base (number_after base n (c ∷ cs)) more
    at true h gap digit = rw h gap
    at false h gap digit = rw h digit

digit_ten : (d : ℕ) → d < 10 → is_ten (48 + d) ≡ true
digit_ten d h = grind (arith, nat_tests)

digit_after : (n d : ℕ) → d < 10 → number_after 10 n ((48 + d) ∷ []) ≡ n * 10 + d
digit_after n d h = grind (arith, nat_tests)

pub numeral : (n : ℕ) → n ≤ most_integer → Numeral n (decimal n)
numeral n h = decimal_by_steps_wide Numeral one more n (omega arith)
  where
    one : (k : ℕ) → k < 10 → Numeral k ((48 + k) ∷ [])
    one k small =
        let ten = digit_ten k small in
        let whole : 0 * 10 + k ≡ k = omega arith in
        record { digits = ten; value = digit_after 0 k small ∙ whole; alone = and_from (is_ten (48 + k)) true ten refl; leads = ten }

    more : (k : ℕ) (ds : List ℕ) → 10 ≤ k → Numeral (k / 10) ds → Numeral k (ds ++ (48 + k % 10) ∷ [])
    more k ds large r =
        let last = (48 + k % 10) ∷ [] in
        let ten = digit_ten (k % 10) (omega arith) in
        let whole : k / 10 * 10 + k % 10 ≡ k = omega arith in
        record {
          digits = digits_more is_ten ds last r.digits ten;
          value = number_append 10 0 ds last ∙ ap (λ m. number_after 10 m last) r.value ∙ digit_after (k / 10) (k % 10) (omega arith) ∙ whole;
          alone = list_all-append is_ten ds last ∙ and_from (list_all is_ten ds) (is_ten (48 + k % 10) && true) r.alone (and_from (is_ten (48 + k % 10)) true ten refl);
          leads = leads_on is_ten ds last r.leads;
        }

ten_class : (c : ℕ) → is_ten c ≡ true → class_of c ≡ Digit
unfolding class_of
ten_class c h = grind (arith, nat_tests)

heads_digit : (text rest : List ℕ) → IsDigits 10 text → Heads Digit (text ++ rest)
heads_digit [] rest h = absurd h
heads_digit (c ∷ text) rest h = ten_class c (digits_head is_ten c text h)

no_ten : (c : ℕ) → is_name_char c ≡ false → is_ten c ≡ false
no_ten c h = grind (arith, nat_tests)

no_bar : (c : ℕ) → is_name_char c ≡ false → c ≢ 95
no_bar c h e = grind (arith, nat_tests)

digits_end : (rest : List ℕ) → EndsWord rest → EndsDigits is_ten rest
digits_end [] h = absurd h
digits_end (c ∷ cs) h = ends_at is_ten c cs (no_ten c h.0) (no_bar c h.0)

blank_no_digit : (bytes ds more : List ℕ) → Leads is_blank bytes → bytes ≡ ds ++ more → IsDigits 10 ds → ⊥
blank_no_digit bytes [] more h e d = d
blank_no_digit [] (x ∷ ds) more h e d = h
blank_no_digit (c ∷ cs) (x ∷ ds) more h e d =
    let same : c ≡ x = cc in
    let digit : is_ten x ≡ true = digits_head is_ten x ds d in
    absurd (grind (arith, nat_tests))

no_fraction : (rest : List ℕ) → EndsWord rest → (front u : List ℕ) → rest ≡ front ++ u → IsFraction front → ⊥
no_fraction [] h front u e k = h
no_fraction (c ∷ cs) h front u e k =
    let cut = k.cut in
    let whole : c ∷ cs ≡ 46 ∷ ((k.digits ++ k.power) ++ u) = cc in
    let point : c ≡ 46 = cc in
    let behind : cs ≡ (k.digits ++ k.power) ++ u = cc in
    blank_no_digit cs k.digits (k.power ++ u) (h.2 point) (behind ∙ append_assoc k.digits k.power u) k.are_digits

no_base : (n : ℕ) (rest : List ℕ) → EndsWord rest → NoBasedTail n rest
no_base n [] h ds u e low high is = absurd h
no_base n (c ∷ cs) h ds u e low high is = let sharp : c ≡ 35 = cc in h.1 sharp

pub int_spelled : (n : ℕ) (rest : List ℕ) → n ≤ most_integer → EndsWord rest → Begins (decimal n ++ rest) rest (Some (Int n)) × Fits (Some (Int n))
int_spelled n rest h ends =
    let r = numeral n h in
    let split : SplitsDigits is_ten (decimal n ++ rest) (decimal n) rest = record { cut = refl; digits = r.digits; ends = digits_end rest ends } in
    let P : ℕ → Type 0 = λ m. Begins (decimal n ++ rest) rest (Some (Int m)) in (
      subst P r.value (decimal_begins (decimal n ++ rest) (decimal n) rest (heads_digit (decimal n) rest r.digits) split (no_fraction rest ends) (no_base (number 10 (decimal n)) rest ends)),
      omega arith,
    )

no_power : (rest : List ℕ) → EndsWord rest → (front u : List ℕ) → rest ≡ front ++ u → IsPower front → ⊥
no_power [] h front u e k = h
no_power (c ∷ cs) h front u e k =
    let cut = k.cut in
    let whole : c ∷ cs ≡ k.letter ∷ ((k.sign ++ k.digits) ++ u) = cc in
    let same : c ≡ k.letter = cc in
    let letter = k.is_e in
    let ends = h.0 in
    absurd (grind (arith, nat_tests))

pub float_spelled : (rest : List ℕ) → EndsWord rest → Begins (codes "0.0" ++ rest) rest (Some Float) × Fits (Some Float)
float_spelled rest ends =
    float_found (codes "0.0" ++ rest) (48 ∷ []) (46 ∷ 48 ∷ rest) rest (heads_digit (48 ∷ []) (46 ∷ 48 ∷ rest) refl)
    (record { cut = refl; digits = refl; ends = ends_at is_ten 46 (48 ∷ rest) refl (λ e. absurd (omega arith)) })
    (fraction_without (46 ∷ 48 ∷ rest) (48 ∷ rest) (48 ∷ []) rest refl (record { cut = refl; digits = refl; ends = digits_end rest ends }) (no_power rest ends))
