-- Formats: the text that a format makes of the terms that it takes.

use Rattle.std.specs.Prelude.{ℕ, pos, if◌then◌else◌, ◌==◌, List, [], ◌∷◌, ◌++◌, Option, None, Some, encode_utf8, encode_utf8_all}
use Rattle.std.specs.Option.{option_and_then, option_map}
use Rattle.edb_lang.specs.Terms.{Datum, atom}
use Rattle.edb_lang.specs.ListTerms.{elements_of, characters_of}
use Rattle.edb_lang.specs.TermText.{term_text, plain_text}

-- a string in UTF-8
abbrev pub utf8_of : Datum → Option (List ℕ)
utf8_of t = option_map encode_utf8_all (characters_of t)

-- an atom's characters or a string's, as they are
abbrev pub bare_text : Datum → Option (List ℕ)
bare_text (atom name) = Some name
bare_text t = utf8_of t

-- what a letter shows of a term: `p` its text, `w` its text without strings, `s` an atom or a string as it is
abbrev pub shown : ℕ → Datum → Option (List ℕ)
shown letter t =
    if letter == 112 then Some (term_text t)
    else if letter == 119 then Some (plain_text t)
    else if letter == 115 then bare_text t
    else None

-- what the character after a tilde writes, and the terms that it leaves: `n` a newline, `~` a tilde, and a letter that
-- shows a term takes the first one
abbrev pub directive : ℕ → List Datum → Option (List ℕ × List Datum)
directive c ts = if c == 110 then Some (10 ∷ [], ts) else if c == 126 then Some (126 ∷ [], ts) else showing c ts
  where
    showing : ℕ → List Datum → Option (List ℕ × List Datum)
    showing c [] = None
    showing c (t ∷ ts) = option_map (λ text. (text, ts)) (shown c t)

-- the text after another one
abbrev pub behind : List ℕ → Option (List ℕ) → Option (List ℕ)
behind front = option_map (λ text. front ++ text)

-- The text that the characters of a format make of terms: a tilde and the character after it are a directive, each
-- other character stands for itself, and at the end no term is left.
unfoldable mutual
  pub formatted : List ℕ → List Datum → Option (List ℕ)
  formatted [] [] = Some []
  formatted [] (t ∷ ts) = None
  formatted (c ∷ cs) ts = if c == 126 then directed cs ts else behind (encode_utf8 c) (formatted cs ts)

  -- the same directly after a tilde
  pub directed : List ℕ → List Datum → Option (List ℕ)
  directed [] ts = None
  directed (c ∷ cs) ts = option_and_then (λ d. behind d.0 (formatted cs d.1)) (directive c ts)

-- The text that a format makes of its arguments: the format is a string and the arguments are a list. None is a bad
-- format.
unfoldable pub format_text_of : Datum → Datum → Option (List ℕ)
format_text_of format args = option_and_then (λ cs. option_and_then (formatted cs) (elements_of args)) (characters_of format)
