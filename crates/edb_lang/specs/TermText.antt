-- The texts of terms: what `display` prints, and what a transcript shows.

use Rattle.std.specs.Prelude.{ℕ, ◌/◌, ◌%◌, Bool, true, false, cond, if◌then◌else◌, not, ◌&&◌, ◌||◌, ◌==◌, nat_eq, nat_lt, nat_le, List, [], ◌∷◌, ◌++◌, Option, None, Some, codes}
use Rattle.std.specs.List.{list_any, list_all, flat_map}
use Rattle.std.specs.Char.{is_ascii_lowercase, is_ascii_alphanumeric}
use Rattle.std.specs.Option.{option_and_then, option_map}
use Rattle.std.specs.Fmt.{decimal, signed_decimal, digit_glyph}
use Rattle.std.specs.Cmp.Lexicographic.{pointwise}
use Rattle.edb_lang.specs.Terms.{Datum, int, atom, reference, made, named, pid, tuple, nil, cons, Datums, none, more}
use Rattle.std.specs.Prelude.{ℤ, pos, negsuc}

-- whether two names are one
abbrev pub same_name : List ℕ → List ℕ → Bool
same_name = pointwise nat_eq

-- the words that are no atoms when they stand bare
abbrev pub reserved_words : List (List ℕ)
reserved_words =
    codes "after" ∷ codes "and" ∷ codes "andalso" ∷ codes "band" ∷ codes "begin" ∷ codes "bnot" ∷ codes "bor"
    ∷ codes "bsl" ∷ codes "bsr" ∷ codes "bxor" ∷ codes "case" ∷ codes "catch" ∷ codes "cond" ∷ codes "div"
    ∷ codes "else" ∷ codes "end" ∷ codes "fun" ∷ codes "if" ∷ codes "let" ∷ codes "maybe" ∷ codes "not"
    ∷ codes "of" ∷ codes "or" ∷ codes "orelse" ∷ codes "receive" ∷ codes "rem" ∷ codes "try" ∷ codes "when"
    ∷ codes "xor" ∷ []

-- a byte that a name may have behind its first one: a letter, a digit, `_` or `@`
abbrev pub is_name_byte : ℕ → Bool
is_name_byte c = is_ascii_alphanumeric c || (c == 95 || c == 64)

-- whether a name reads as an atom without quotes: a lower-case letter first, and no reserved word
abbrev pub is_bare : List ℕ → Bool
is_bare [] = false
is_bare (c ∷ cs) =
    is_ascii_lowercase c && (list_all is_name_byte cs && not (list_any (same_name (c ∷ cs)) reserved_words))

-- the letter that stands behind a backslash for a character, where there is one
abbrev pub letter_of : ℕ → Option ℕ
letter_of c =
    if c == 8 then Some 98 else if c == 127 then Some 100 else if c == 27 then Some 101 else if c == 12 then Some 102
    else if c == 10 then Some 110 else if c == 13 then Some 114 else if c == 9 then Some 116 else if c == 11 then Some 118
    else if c == 0 then Some 48 else None

-- the byte as it stands between quotes q: the quote, the backslash, 127 and what is below 32 are escaped
abbrev pub escaped : ℕ → ℕ → List ℕ
escaped q c =
    if c == q || c == 92 then 92 ∷ c ∷ []
    else if nat_lt c 32 || c == 127 then escape (letter_of c) c
    else c ∷ []
  where
    -- by its letter, or as two hexadecimal digits
    escape : Option ℕ → ℕ → List ℕ
    escape (Some l) c = 92 ∷ l ∷ []
    escape None c = 92 ∷ 120 ∷ digit_glyph false (c / 16) ∷ digit_glyph false (c % 16) ∷ []

-- bytes between quotes
abbrev pub quoted : ℕ → List ℕ → List ℕ
quoted q bytes = q ∷ (flat_map (escaped q) bytes ++ (q ∷ []))

-- an atom bare where it reads so, else in single quotes
abbrev pub atom_text : List ℕ → List ℕ
atom_text name = if is_bare name then name else quoted 39 name

-- a character that a list shown as a string may hold
abbrev pub is_printable : ℕ → Bool
is_printable c = (nat_le 32 c && nat_le c 126) || ((nat_le 8 c && nat_le c 13) || c == 27)

-- the character that an element stands for, where it is a printable one
abbrev pub printable : Datum → Option ℕ
printable (int (pos c)) = if is_printable c then Some c else None
printable _ = None

-- the characters of a list that is shown as a string: each element is printable, and it ends in nil
abbrev pub characters : Datum → Option (List ℕ)
characters nil = Some []
characters (cons h t) = option_and_then (λ c. option_map (λ cs. c ∷ cs) (characters t)) (printable h)
characters _ = None

-- a list's text: a string's where it is one, else its own
abbrev pub string_or : Option (List ℕ) → List ℕ → List ℕ
string_or (Some cs) own = quoted 34 cs
string_or None own = own

-- the text of what a list ends in, or of a term by itself
abbrev pub around : Bool → List ℕ → List ℕ
around tail own = if tail then (124 ∷ own) ++ (93 ∷ []) else own

-- A term's text. `strings`: lists of printable characters are shown as strings; `tail`: the term is
-- what a list has behind its elements so far.
unfoldable mutual
  pub text : Bool → Bool → Datum → List ℕ
  text strings tail (int i) = around tail (signed_decimal i)
  text strings tail (atom a) = around tail (atom_text a)
  text strings tail (reference r) = around tail ((codes "#Ref<" ++ decimal r) ++ codes ">")
  text strings tail (made m v i a cs) =
      around tail (((((codes "#Fun<" ++ atom_text m) ++ codes ".") ++ decimal v) ++ codes ".") ++ decimal i ++ codes ">")
  text strings tail (named m f a) =
      around tail ((((codes "fun " ++ atom_text m) ++ codes ":") ++ atom_text f) ++ codes "/" ++ decimal a)
  text strings tail (pid p) = around tail ((codes "<" ++ decimal p) ++ codes ">")
  text strings tail (tuple ts) = around tail (tuple_text strings ts)
  text strings tail nil = if tail then 93 ∷ [] else codes "[]"
  text strings tail (cons h t) =
      string_or (if strings && not tail then characters (cons h t) else None)
      ((if tail then 44 else 91) ∷ (text strings false h ++ text strings true t))

  pub tuple_text : Bool → Datums → List ℕ
  tuple_text strings none = codes "{}"
  tuple_text strings (more t ts) = 123 ∷ (text strings false t ++ items_text strings 44 ts)

  -- each element behind a mark, which is a comma from the second one on; and the closing brace
  pub items_text : Bool → ℕ → Datums → List ℕ
  items_text strings mark none = 125 ∷ []
  items_text strings mark (more t ts) = mark ∷ (text strings false t ++ items_text strings 44 ts)

-- the text of a term, and its text without strings
unfoldable pub term_text : Datum → List ℕ
term_text t = text true false t

unfoldable pub plain_text : Datum → List ℕ
plain_text t = text false false t
