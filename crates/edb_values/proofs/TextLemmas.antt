-- Texts as lists of characters.

use Rattle.std.proofs.Common.{◌≡◌, ◌<◌, ◌≤◌, ◌^◌, ℕ, zero, suc, ℤ, pos, negsuc, List, [], ◌∷◌, map, length, get_or, drop, fold, drop-cons, refl, sym, ap, ◌∙◌, arith}
use Rattle.std.specs.Prelude.{chars}
use Rattle.std.specs.Fmt.{signed_decimal}
use Rattle.std.specs.Int.Signed.{mag}
use Rattle.std.specs.Str.{IsAscii}
use Rattle.std.proofs.lemmas.Fmt.{IsAscii-decimal_wide}
use Rattle.std.proofs.lemmas.Str.{chars-IsAscii}
use Rattle.edb_lang.specs.Terms.{int, nil, cons}
use Rattle.edb_lang.specs.ListTerms.{list_of, string_of}
use Rattle.edb_values.specs.Decimals.{further, number}

pub map_same : (xs : List ℕ) → map (λ x. x) xs ≡ xs
map_same [] = refl
map_same (x ∷ xs) = ap (λ t. x ∷ t) (map_same xs)

-- a string is the list of its characters
pub list_of_characters : (cs : List ℕ) → list_of (map (λ c. int (pos c)) cs) nil ≡ string_of cs
list_of_characters [] = refl
list_of_characters (c ∷ cs) = ap (cons (int (pos c))) (list_of_characters cs)

-- an integer is written in ASCII
pub ascii_signed : (z : ℤ) → mag z < 2 ^ 127 → IsAscii (signed_decimal z)
ascii_signed (pos n) small i = IsAscii-decimal_wide n (omega arith) i
ascii_signed (negsuc n) small zero = omega arith
ascii_signed (negsuc n) small (suc i) = IsAscii-decimal_wide (suc n) (omega arith) i

-- its bytes are its characters
pub chars_signed : (z : ℤ) → mag z < 2 ^ 127 → chars (signed_decimal z) ≡ signed_decimal z
chars_signed z small = chars-IsAscii (signed_decimal z) (ascii_signed z small)

-- more digits never make a number smaller
number_grows : (n : ℕ) (ds : List ℕ) → n ≤ fold further n ds
number_grows n [] = omega arith
number_grows n (d ∷ ds) = omega (arith, number_grows (further n d) ds)

-- a number is too large once its digits so far are
pub number_too_large : (bound n d : ℕ) (ds : List ℕ) (i : ℕ) → i < length ds → fold further n (drop i ds) ≡ number ds → d ≡ get_or ds i d
    → bound ≤ further n d → bound ≤ number ds
number_too_large bound n d ds i below so_far is large =
    let split : drop i ds ≡ d ∷ drop (suc i) ds = drop-cons ds i d below ∙ ap (λ e. e ∷ drop (suc i) ds) (sym is) in
    let whole : fold further n (drop i ds) ≡ fold further (further n d) (drop (suc i) ds) = ap (fold further n) split in
    omega (arith, number_grows (further n d) (drop (suc i) ds), whole, so_far, large)
