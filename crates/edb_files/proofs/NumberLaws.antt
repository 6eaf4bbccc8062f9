-- What `parse` answers at a word of digits.

use Rattle.std.proofs.Common.{◌≡◌, ◌⊎◌, inl, inr, ◌≤◌, ℕ, ◌^◌, ◌<◌, ◌&&◌, Bool, true, false, cond, List, [], ◌∷◌, length, Option, None, Some, refl, sym, ap, subst, ◌∙◌, nat_le, arith}
use Rattle.std.specs.Char.{is_ascii_digit}
use Rattle.std.specs.Int.{IsInRange}
use Rattle.std.specs.List.{list_all}
use Rattle.std.specs.Result.{OkIff}
use Rattle.std.specs.Str.Parse.{digits_value, ParsesUnsigned}
use Rattle.std.specs.declared.result.Result.{Result}
use Rattle.std.specs.declared.result.Result.TheVariants.{Ok, Err}
use Rattle.std.proofs.lemmas.Bool.{and_parts, leb-true, le-leb, lt-leb}
use Rattle.std.proofs.lemmas.Bool.Decides.{leb_tells}
use Rattle.std.proofs.lemmas.Str.Parse.{IsDigitsTest, numerals_by_value, parse_digits}
use Rattle.edb_files.specs.Numbers.{is_number, in_range, number_in}

tells : IsDigitsTest (λ ds. list_all is_ascii_digit ds ≡ true)
tells = record {
  empty = refl;
  parts = λ c cs e. let k = and_parts (is_ascii_digit c) (list_all is_ascii_digit cs) e in let m = and_parts (nat_le 48 c) (nat_le c 57) k.0 in ((leb-true 48 c m.0, leb-true c 57 m.1), k.1);
  more = λ c cs k e. rw (le-leb 48 c k.0, le-leb c 57 k.1, e) refl;
}

module _ (word : List ℕ) (number : is_number word ≡ true) where
  digits : list_all is_ascii_digit word ≡ true
  digits = (and_parts (nat_le (length word) 7) (list_all is_ascii_digit word) (and_parts (nat_le 1 (length word)) (nat_le (length word) 7 && list_all is_ascii_digit word) number).1).1

  some_digit : 0 < length word
  some_digit = omega (arith, leb-true 1 (length word) (and_parts (nat_le 1 (length word)) (nat_le (length word) 7 && list_all is_ascii_digit word) number).0)

ended : (b : Bool) (n : ℕ) → cond (b && false) (Some n) None ≡ None
ended false n = refl
ended true n = refl

-- what `parse` reads in a number's word is the number
pub parsed : {E : Type 0} (word : List ℕ) (least most n : ℕ) (r : Result ℕ E) → is_number word ≡ true → ParsesUnsigned 32 10 word r → r ≡ Ok n
    → in_range least most n ≡ number_in least most word
parsed word least most n r number reads is =
    let reading = parse_digits (numerals_by_value (λ ds. list_all is_ascii_digit ds ≡ true) tells) 32 word r reads (digits word number) in
    let value : n ≡ digits_value 10 word = (subst (λ s. OkIff s ((0 < length word) × (digits_value 10 word < 2 ^ 32)) (digits_value 10 word)) is reading).1 in
    ap (in_range least most) value ∙ sym (ap (λ (b : Bool). cond b (in_range least most (digits_value 10 word)) None) number)

-- what it doesn't read is out of range
pub too_great : {E : Type 0} (word : List ℕ) (least most : ℕ) (e : E) (r : Result ℕ E) → is_number word ≡ true → most < 2 ^ 32 → ParsesUnsigned 32 10 word r → r ≡ Err e
    → None ≡ number_in least most word
too_great word least most e r number below reads is = of (leb_tells (digits_value 10 word) most)
  where
    refused : ((0 < length word) × (digits_value 10 word < 2 ^ 32)) → ⊥
    refused =
        subst (λ s. OkIff s ((0 < length word) × (digits_value 10 word < 2 ^ 32)) (digits_value 10 word)) is
        (parse_digits (numerals_by_value (λ ds. list_all is_ascii_digit ds ≡ true) tells) 32 word r reads (digits word number))

    of : ((nat_le (digits_value 10 word) most ≡ true) × (digits_value 10 word ≤ most)) ⊎ ((nat_le (digits_value 10 word) most ≡ false) × (most < digits_value 10 word)) → None ≡ number_in least most word
    of (inl fits) = absurd (refused (some_digit word number, omega (arith, fits.1, below)))
    of (inr over) = sym (rw (number, over.0) (ended (nat_le least (digits_value 10 word)) (digits_value 10 word)))
