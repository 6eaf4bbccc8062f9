-- Atoms: at most 255 characters of UTF-8, written bare if they read so, else in single quotes.

use Rattle.std.specs.Prelude.{◌≡◌, ℕ, ◌+◌, nat_le, Bool, false, if◌then◌else◌, ◌==◌, ◌&&◌, List, [], ◌∷◌, ◌++◌, length, chars, Option, None, Some, IsUtf8, codes, refl}
use Rattle.std.specs.Str.{is_utf8}
use Rattle.edb_lang.specs.TermText.{is_name_byte, atom_text}
use Rattle.edb_event.specs.Ranges.{IsShort}
use Rattle.edb_fields.specs.declared.atoms.Quote.{Quote}
use Rattle.edb_fields.specs.declared.atoms.Quote.TheVariants.{Plain, Escape, High, Low, Teen}
use Rattle.edb_fields.specs.Chain.{◌>>=◌}
use Rattle.edb_fields.specs.Hexadecimal.{hex_value}
use Rattle.edb_fields.specs.Reading.{field_at}

-- what an atom's name has to be
abbrev pub IsAtomName : List ℕ → Type 0
IsAtomName name = IsUtf8 name × IsShort name

abbrev pub is_atom_name : List ℕ → Bool
is_atom_name name = is_utf8 name && nat_le (length (chars name)) 255

-- the name with these characters
abbrev pub named : List ℕ → Option (List ℕ)
named name = if is_atom_name name then Some name else None

-- The character of a letter after a backslash; the backslash and the quote are their own. `s` and the double quote aren't here,
-- since they stand for themselves where an atom is written.
abbrev pub letter_value : ℕ → Option ℕ
letter_value l =
    if l == 98 then Some 8 else if l == 100 then Some 127 else if l == 101 then Some 27 else if l == 102 then Some 12
    else if l == 110 then Some 10 else if l == 114 then Some 13 else if l == 116 then Some 9 else if l == 118 then Some 11
    else if l == 48 then Some 0 else if l == 92 then Some 92 else if l == 39 then Some 39 else None

-- a byte that was written whole, and how the next one reads
abbrev pub whole : Option ℕ → Option (Option ℕ × Quote)
whole (Some b) = Some (Some b, Plain)
whole None = None

-- what one byte in quotes writes, if what stands for a byte of the name ends with it, and how the next one reads
abbrev pub after_byte : Quote → ℕ → Option (Option ℕ × Quote)
after_byte Plain c = if c == 92 then Some (None, Escape) else Some (Some c, Plain)
after_byte Escape c = if c == 120 then Some (None, High) else whole (letter_value c)
after_byte High c = if c == 48 then Some (None, Low) else if c == 49 then Some (None, Teen) else None
after_byte Low c = whole (hex_value c)
after_byte Teen c = whole (hex_value c >>= (λ low. Some (16 + low)))

-- whether a byte closes the quotes
abbrev pub closes : Quote → ℕ → Bool
closes Plain c = c == 39
closes _ c = false

-- the name with what a byte writes
abbrev pub with_written : List ℕ → Option ℕ → List ℕ
with_written name None = name
with_written name (Some b) = name ++ b ∷ []

-- the name so far with the characters up to the closing quote, and the rest
abbrev pub unquoted_at : Quote → List ℕ → List ℕ → Option (List ℕ × List ℕ)
unquoted_at quote name [] = None
unquoted_at quote name (c ∷ cs) =
    if closes quote c then Some (name, cs) else after_byte quote c >>= (λ x. unquoted_at x.1 (with_written name x.0) cs)

-- the name so far with the bytes of names at the front, and the rest
abbrev pub bare_at : List ℕ → List ℕ → List ℕ × List ℕ
bare_at name [] = (name, [])
bare_at name (c ∷ cs) = if is_name_byte c then bare_at (name ++ c ∷ []) cs else (name, c ∷ cs)

abbrev pub spelled_at : List ℕ → Option (List ℕ × List ℕ)
spelled_at [] = None
spelled_at (c ∷ cs) = if c == 39 then unquoted_at Plain [] cs else Some (bare_at [] (c ∷ cs))

-- the atom at the front, however it is spelled
abbrev pub atom_at : List ℕ → Option (List ℕ × List ℕ)
atom_at bytes = do
  (characters, rest) ← spelled_at bytes
  name ← named characters
  Some (name, rest)

-- an atom's field
abbrev pub name_at : List ℕ → Option (List ℕ × List ℕ)
name_at bytes = field_at atom_text atom_at bytes

-- the spellings of some atoms
bare : field_at atom_text spelled_at (codes " shop 1") ≡ Some (codes "shop", codes " 1")
bare = refl

in_quotes : field_at atom_text spelled_at (codes " 'a b\\n'\n") ≡ Some (codes "a b\n", codes "\n")
in_quotes = refl

quoted_for_nothing : field_at atom_text spelled_at (codes " 'shop'\n") ≡ None
quoted_for_nothing = refl

not_quoted : field_at atom_text spelled_at (codes " Shop\n") ≡ None
not_quoted = refl

word : field_at atom_text spelled_at (codes " end\n") ≡ None
word = refl

other_spelling : field_at atom_text spelled_at (codes " 'a\\x0ab'\n") ≡ None
other_spelling = refl

by_digits : field_at atom_text spelled_at (codes " 'a\\x01b'\n") ≡ Some (97 ∷ 1 ∷ 98 ∷ [], codes "\n")
by_digits = refl

never_closed : field_at atom_text spelled_at (codes " 'a b\n") ≡ None
never_closed = refl

no_name : field_at atom_text spelled_at (codes " ''\n") ≡ Some ([], codes "\n")
no_name = refl
