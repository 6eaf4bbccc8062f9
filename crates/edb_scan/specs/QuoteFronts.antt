-- What the functions on characters and texts in quotes answer.
use Rattle.std.specs.Prelude.{◌≡◌, ℕ, ◌⊎◌, List, ◌∷◌, ◌++◌, Option, MatchOption, encode_utf8_all}
use Rattle.std.specs.Borrow.{Bor}
use Rattle.edb_scan.specs.Quotation.{IsEscape, IsHex, Quotes}

-- a character that the text's front writes in this way, and what comes after it
abbrev pub FindsFirst : (List ℕ → ℕ → Type 0) → List ℕ → Option (ℕ × Bor (List ℕ)) → Type 0
FindsFirst W bytes found =
    MatchOption found ((one after : List ℕ) (c : ℕ) → bytes ≡ one ++ after → W one c → ⊥)
    (λ x. (one : List ℕ) × (bytes ≡ one ++ x.1.now) × W one x.0)

-- what the rest of an escape writes, after its backslash
abbrev pub WritesBehindBackslash : List ℕ → ℕ → Type 0
WritesBehindBackslash text c = IsEscape (92 ∷ text) c ⊎ IsHex (92 ∷ text) c

-- up to the closing quote the text writes these characters
pub record UpTo (quote : ℕ) (bytes after cs : List ℕ) : Type 0 where
  pub inner : List ℕ
  pub cut : bytes ≡ inner ++ quote ∷ after
  pub quotes : Quotes quote inner cs

-- no closing quote
abbrev pub NoEnd : ℕ → List ℕ → Type 0
NoEnd quote bytes = (after cs : List ℕ) → UpTo quote bytes after cs → ⊥

-- the characters up to the closing quote, in UTF-8, and what comes after it
abbrev pub FindsEnd : ℕ → List ℕ → Option (List ℕ × Bor (List ℕ)) → Type 0
FindsEnd quote bytes found = MatchOption found (NoEnd quote bytes) (λ x. (cs : List ℕ) × (x.0 ≡ encode_utf8_all cs) × UpTo quote bytes x.1.now cs)
