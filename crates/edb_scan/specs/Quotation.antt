-- Characters, escapes, and texts in quotes.
use Rattle.std.specs.Prelude.{◌≡◌, ◌≢◌, ℕ, ◌+◌, ◌*◌, ◌<◌, cond, ◌==◌, ◌⊎◌, List, [], ◌∷◌, ◌++◌, Option, Some, None, encode_utf8}
use Rattle.std.specs.Char.{IsScalar, digit_value}

-- what a backslash and this letter stand for
abbrev pub escaped : ℕ → Option ℕ
escaped letter =
    cond (letter == 98) (Some 8)
    (cond (letter == 100) (Some 127)
    (cond (letter == 101) (Some 27)
    (cond (letter == 102) (Some 12)
    (cond (letter == 110) (Some 10)
    (cond (letter == 114) (Some 13)
    (cond (letter == 115) (Some 32)
    (cond (letter == 116) (Some 9)
    (cond (letter == 118) (Some 11)
    (cond (letter == 48) (Some 0)
    (cond (letter == 34) (Some 34)
    (cond (letter == 39) (Some 39)
    (cond (letter == 92) (Some 92) None))))))))))))

-- a backslash and the letter of an escape
pub record IsEscape (text : List ℕ) (c : ℕ) : Type 0 where
  pub letter : ℕ
  pub cut : text ≡ 92 ∷ letter ∷ []
  pub value : escaped letter ≡ Some c

-- `\x` and two hexadecimal digits
pub record IsHex (text : List ℕ) (c : ℕ) : Type 0 where
  pub high : ℕ
  pub low : ℕ
  pub cut : text ≡ 92 ∷ 120 ∷ high ∷ low ∷ []
  pub high_digit : digit_value high < 16
  pub low_digit : digit_value low < 16
  pub value : c ≡ digit_value high * 16 + digit_value low

-- one character in UTF-8 that stands for itself: neither the quote nor a backslash
pub record IsPlain (quote : ℕ) (text : List ℕ) (c : ℕ) : Type 0 where
  pub scalar : IsScalar c
  pub bytes : text ≡ encode_utf8 c
  pub no_quote : c ≢ quote
  pub no_backslash : c ≢ 92

-- the text writes the one character c between such quotes
abbrev pub Writes : ℕ → List ℕ → ℕ → Type 0
Writes quote text c = IsPlain quote text c ⊎ IsEscape text c ⊎ IsHex text c

-- the text writes these characters, one after another
abbrev pub Quotes : ℕ → List ℕ → List ℕ → Type 0
Quotes quote text [] = text ≡ []
Quotes quote text (c ∷ cs) = (one : List ℕ) × (rest : List ℕ) × (text ≡ one ++ rest) × Writes quote one c × Quotes quote rest cs

-- a text in quotes: a quote, what writes the characters, a quote
pub record IsQuoted (quote : ℕ) (text cs : List ℕ) : Type 0 where
  pub inner : List ℕ
  pub cut : text ≡ quote ∷ (inner ++ quote ∷ [])
  pub quotes : Quotes quote inner cs

-- no character, since no quote needs an escape after `$`
abbrev pub no_quote : ℕ
no_quote = 0x11_0000

-- `$` and one character, or `$` and an escape
pub record IsChar (text : List ℕ) (c : ℕ) : Type 0 where
  pub one : List ℕ
  pub cut : text ≡ 36 ∷ one
  pub writes : Writes no_quote one c
