-- What one token, byte of white space or comment is, and which of them begins a text.
use Rattle.std.specs.Prelude.{◌≡◌, ℕ, ◌<◌, ◌≤◌, ◌^◌, Bool, true, false, ◌||◌, ◌==◌, ◌⊎◌, List, [], ◌∷◌, ◌++◌, length, not, IsUtf8, chars, encode_utf8_all, Option, Some, None}
use Rattle.std.specs.List.{list_all}
use Rattle.edb_scan.specs.Letters.{is_space, is_lower, is_upper, is_name_char}
use Rattle.edb_scan.specs.Numerals.{IsInteger, IsFloat}
use Rattle.edb_scan.specs.Quotation.{IsQuoted, IsChar}
use Rattle.edb_scan.specs.Spellings.{IsMark, IsWord}
use Rattle.edb_scan.specs.declared.lexeme.Mark.{Mark}
use Rattle.edb_scan.specs.declared.lexeme.Token.{Token}
use Rattle.edb_scan.specs.declared.lexeme.Token.TheVariants as token
use Rattle.edb_scan.specs.declared.lexeme.Token.TheVariants.{Int, Float, Char, Atom, Var, Str, Dot}

-- one byte of white space
abbrev pub IsSpace : List ℕ → Type 0
IsSpace [] = ⊥
IsSpace (c ∷ cs) = (is_space c ≡ true) × (cs ≡ [])

-- the end of a line: a newline, or the text's end
abbrev pub EndsLine : List ℕ → Type 0
EndsLine [] = Unit {0}
EndsLine (c ∷ cs) = c ≡ 10

abbrev pub stays_in_line : ℕ → Bool
stays_in_line c = not (c == 10)

-- `%` and what follows up to the end of its line, in UTF-8
pub record IsComment (text after : List ℕ) : Type 0 where
  pub words : List ℕ
  pub cut : text ≡ 37 ∷ words
  pub one_line : list_all stays_in_line words ≡ true
  pub utf8 : IsUtf8 words
  pub ends : EndsLine after

-- a first character that passes the test, and characters of names
abbrev pub IsName : (ℕ → Bool) → List ℕ → Type 0
IsName first [] = ⊥
IsName first (c ∷ cs) = (first c ≡ true) × (list_all is_name_char cs ≡ true)

-- an atom in quotes: its characters, escapes decoded, are the name's
pub record IsQuotedAtom (text name : List ℕ) : Type 0 where
  pub characters : List ℕ
  pub quoted : IsQuoted 39 text characters
  pub named : name ≡ encode_utf8_all characters

-- an atom without quotes is its own name, and no reserved word
abbrev pub IsBareAtom : List ℕ → List ℕ → Type 0
IsBareAtom text name = (name ≡ text) × IsName is_lower text × ((m : Mark) → IsWord text m → ⊥)

-- a `.` is a dot if white space, a comment or the end of the text follows
abbrev pub ends_form : List ℕ → Bool
ends_form [] = true
ends_form (c ∷ cs) = is_space c || c == 37

-- what a text spells if this comes after it: a token, or white space or a comment for None
abbrev pub Spells : List ℕ → List ℕ → Option Token → Type 0
Spells text after None = IsSpace text ⊎ IsComment text after
Spells text after (Some (Int n)) = IsInteger text n
Spells text after (Some Float) = IsFloat text
Spells text after (Some (Char c)) = IsChar text c
Spells text after (Some (Atom name)) = IsBareAtom text name ⊎ IsQuotedAtom text name
Spells text after (Some (Var name)) = (name ≡ text) × IsName is_upper text
Spells text after (Some (Str cs)) = IsQuoted 34 text cs
Spells text after (Some (token.Mark m)) = IsWord text m ⊎ (IsMark text m × (text ≡ 46 ∷ [] → ends_form after ≡ false))
Spells text after (Some Dot) = (text ≡ 46 ∷ []) × (ends_form after ≡ true)

-- the text begins with this piece, and no longer front of it spells anything
pub record Begins (rest after : List ℕ) (piece : Option Token) : Type 0 where
  pub text : List ℕ
  pub cut : rest ≡ text ++ after
  pub spells : Spells text after piece
  pub longest : (front behind : List ℕ) (other : Option Token) → rest ≡ front ++ behind → Spells front behind other → length front ≤ length text

-- the limits: an integer is below 2^127, an atom has at most 255 characters
abbrev pub Fits : Option Token → Type 0
Fits None = Unit {0}
Fits (Some (Int n)) = n < 2 ^ 127
Fits (Some Float) = Unit {0}
Fits (Some (Char c)) = Unit {0}
Fits (Some (Atom name)) = length (chars name) ≤ 255
Fits (Some (Var name)) = Unit {0}
Fits (Some (Str cs)) = Unit {0}
Fits (Some (token.Mark m)) = Unit {0}
Fits (Some Dot) = Unit {0}

abbrev pub is_string : Option Token → Bool
is_string None = false
is_string (Some (Int n)) = false
is_string (Some Float) = false
is_string (Some (Char c)) = false
is_string (Some (Atom name)) = false
is_string (Some (Var name)) = false
is_string (Some (Str cs)) = true
is_string (Some (token.Mark m)) = false
is_string (Some Dot) = false

-- a piece within its limits; no string comes directly after a string
abbrev pub MayStand : Bool → Option Token → Type 0
MayStand behind_string piece = Fits piece × (behind_string ≡ true → is_string piece ≡ false)
