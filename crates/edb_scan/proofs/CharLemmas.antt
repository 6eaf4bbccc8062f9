-- Characters in UTF-8: their first byte tells how many they take.
use Rattle.std.proofs.Common.{◌≡◌, ℕ, ◌≤◌, ◌+◌, List, [], ◌++◌, length, get_or, take, sym, ap, ◌∙◌, subst, arith, append-nil}
use Rattle.std.specs.Prelude.{encode_utf8, IsUtf8}
use Rattle.std.specs.Char.{IsScalar, len_utf8}
use Rattle.std.specs.Str.{continuation_len}
use Rattle.std.proofs.Math.Seq.{take-append_seam}
use Rattle.std.proofs.lemmas.Bool.Decides.{nat_tests}
use Rattle.std.proofs.lemmas.Str.{IsUtf8-encode, encode_same, length-encode, len_utf8_bounds}
use Rattle.std.proofs.str.Laws.{Shape, of1, of2, of3, of4, shape}
use lib.Utf8.{scalar_cases}

-- the first byte tells the length
shape_len : (c : ℕ) (rest : List ℕ) → Shape c → length (encode_utf8 c) ≡ continuation_len (get_or (encode_utf8 c ++ rest) 0 0) + 1
shape_len c rest (of1 low e) = rw e (grind (arith, nat_tests))
shape_len c rest (of2 a b low high f sum e) = rw e (grind (arith, nat_tests))
shape_len c rest (of3 a b d low high f g sum e) = rw e (grind (arith, nat_tests))
shape_len c rest (of4 a b d e' low high f g h sum e) = rw e (grind (arith, nat_tests))

pub char_len_of_first : (c : ℕ) (rest bytes : List ℕ) → IsScalar c → bytes ≡ encode_utf8 c ++ rest → length (encode_utf8 c) ≡ continuation_len (get_or bytes 0 0) + 1
char_len_of_first c rest bytes scalar e = shape_len c rest (shape c (scalar_cases c scalar)) ∙ ap (λ t. continuation_len (get_or t 0 0) + 1) (sym e)

pub encode_some : (c : ℕ) → 1 ≤ length (encode_utf8 c)
encode_some c = let bounds = len_utf8_bounds c in omega (arith, length-encode c)

-- a text's front of a character's length is the character
pub front_char : (bytes rest : List ℕ) (c len : ℕ) → bytes ≡ encode_utf8 c ++ rest → length (encode_utf8 c) ≡ len → take len bytes ≡ encode_utf8 c
front_char bytes rest c len e l = ap (λ t. take len t) e ∙ ap (λ n. take n (encode_utf8 c ++ rest)) (sym l) ∙ take-append_seam (encode_utf8 c) rest

pub front_text : (bytes rest : List ℕ) (c len : ℕ) → IsScalar c → bytes ≡ encode_utf8 c ++ rest → length (encode_utf8 c) ≡ len → IsUtf8 (take len bytes)
front_text bytes rest c len scalar e l = let P : List ℕ → Type 0 = λ t. IsUtf8 t in subst P (sym (front_char bytes rest c len e l)) (IsUtf8-encode c scalar)

-- so the first character of that front has that length
pub sole_char : (bytes rest more : List ℕ) (c d len : ℕ) → bytes ≡ encode_utf8 c ++ rest → length (encode_utf8 c) ≡ len → take len bytes ≡ encode_utf8 d ++ more → len_utf8 d ≡ len
sole_char bytes rest more c d len e l f =
    let whole : encode_utf8 d ++ more ≡ encode_utf8 c ++ [] = sym f ∙ front_char bytes rest c len e l ∙ sym (append-nil (encode_utf8 c)) in
    let same = encode_same d c more [] whole in
    sym (length-encode d) ∙ ap (λ x. length (encode_utf8 x)) same.0 ∙ l
