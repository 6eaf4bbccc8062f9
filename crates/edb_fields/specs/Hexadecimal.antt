-- Bytes in lower-case hexadecimal, two digits each; `-` if there are none.

use Rattle.std.specs.Prelude.{◌≡◌, ℕ, ◌+◌, ◌-◌, ◌*◌, ◌/◌, ◌%◌, ◌<◌, nat_le, false, if◌then◌else◌, ◌==◌, ◌&&◌, List, [], ◌∷◌, ◌++◌, Option, None, Some, codes, refl}
use Rattle.std.specs.Char.{is_ascii_digit}
use Rattle.std.specs.Fmt.{digit_glyph}
use Rattle.std.specs.List.{flat_map}
use Rattle.edb_fields.specs.Chain.{◌>>=◌}
use Rattle.edb_fields.specs.Reading.{space_at}
use Rattle.edb_fields.specs.Separators.{ends}

-- each is a byte
abbrev pub AreBytes : List ℕ → Type 0
AreBytes [] = Unit {0}
AreBytes (b ∷ bs) = (b < 256) × AreBytes bs

abbrev pub byte_digits : ℕ → List ℕ
byte_digits b = digit_glyph false (b / 16) ∷ digit_glyph false (b % 16) ∷ []

abbrev pub hex_text : List ℕ → List ℕ
hex_text [] = 45 ∷ []
hex_text (b ∷ bs) = flat_map byte_digits (b ∷ bs)

-- the value of a digit, which is no capital letter
abbrev pub hex_value : ℕ → Option ℕ
hex_value c = if is_ascii_digit c then Some (c - 48) else if nat_le 97 c && nat_le c 102 then Some (c - 87) else None

-- the byte that two digits write
abbrev pub byte_of : ℕ → ℕ → Option ℕ
byte_of c d = do
  high ← hex_value c
  low ← hex_value d
  Some (high * 16 + low)

-- further, if two digits write a byte
abbrev pub go_on : Option ℕ → (ℕ → List ℕ × List ℕ) → List ℕ × List ℕ → List ℕ × List ℕ
go_on (Some b) more end = more b
go_on None more end = end

-- the bytes found so far with those that pairs of digits at the front write, and the rest
abbrev pub pairs_at : List ℕ → List ℕ → List ℕ × List ℕ
pairs_at found [] = (found, [])
pairs_at found (c ∷ []) = (found, c ∷ [])
pairs_at found (c ∷ d ∷ cs) = go_on (byte_of c d) (λ b. pairs_at (found ++ b ∷ []) cs) (found, c ∷ d ∷ cs)

-- some bytes, at which the field ends
abbrev pub some_bytes : List ℕ × List ℕ → Option (List ℕ × List ℕ)
some_bytes ([], rest) = None
some_bytes (b ∷ bs, rest) = if ends rest then Some (b ∷ bs, rest) else None

abbrev pub digits_or_none : List ℕ → Option (List ℕ × List ℕ)
digits_or_none [] = None
digits_or_none (c ∷ cs) = if c == 45 then (if ends cs then Some ([], cs) else None) else some_bytes (pairs_at [] (c ∷ cs))

-- the field of some bytes
abbrev pub bytes_at : List ℕ → Option (List ℕ × List ℕ)
bytes_at bytes = space_at bytes >>= digits_or_none

three : hex_text (53 ∷ 10 ∷ 255 ∷ []) ≡ codes "350aff"
three = refl

none : hex_text [] ≡ codes "-"
none = refl

three_read : bytes_at (codes " 350aff -") ≡ Some (53 ∷ 10 ∷ 255 ∷ [], codes " -")
three_read = refl

none_read : bytes_at (codes " -\n") ≡ Some ([], codes "\n")
none_read = refl

capital : bytes_at (codes " 3A\n") ≡ None
capital = refl

odd_digits : bytes_at (codes " 35a\n") ≡ None
odd_digits = refl

no_bytes : bytes_at (codes " \n") ≡ None
no_bytes = refl
