-- Reading from the front, as the code does.

use Rattle.std.specs.Prelude.{◌≡◌, ℕ, if◌then◌else◌, ◌==◌, List, [], ◌∷◌, Option, None, Some, codes, refl}
use Rattle.edb_fields.specs.Chain.{◌>>=◌}
use Rattle.edb_fields.specs.Separators.{ends}

-- the first byte and the rest
abbrev pub first_at : List ℕ → Option (ℕ × List ℕ)
first_at [] = None
first_at (c ∷ cs) = Some (c, cs)

-- what comes after this byte
abbrev pub byte_at : ℕ → List ℕ → Option (List ℕ)
byte_at b bytes = do
  (c, rest) ← first_at bytes
  if c == b then Some rest else None

-- what comes after the space before a field
abbrev pub space_at : List ℕ → Option (List ℕ)
space_at bytes = byte_at 32 bytes

-- what comes after the end of a line
abbrev pub line_end_at : List ℕ → Option (List ℕ)
line_end_at bytes = byte_at 10 bytes

-- what comes after this text
abbrev pub after_text : List ℕ → List ℕ → Option (List ℕ)
after_text [] bytes = Some bytes
after_text (c ∷ cs) [] = None
after_text (c ∷ cs) (d ∷ ds) = if d == c then after_text cs ds else None

-- what comes after a field's text, where the field ends
abbrev pub field_end : {A : Type 0} → A → Option (List ℕ) → Option (A × List ℕ)
field_end value None = None
field_end value (Some rest) = if ends rest then Some (value, rest) else None

-- A field that is read loosely by `read`, and then compared with the text that would be written for its value.
abbrev pub field_at : {A : Type 0} → (A → List ℕ) → (List ℕ → Option (A × List ℕ)) → List ℕ → Option (A × List ℕ)
field_at text read bytes = do
  from ← space_at bytes
  (value, _) ← read from
  field_end value (after_text (text value) from)

after_word : after_text (codes "by") (codes "by 1") ≡ Some (codes " 1")
after_word = refl

other_word : after_text (codes "by") (codes "be 1") ≡ None
other_word = refl
