-- Escapes and characters that stand for themselves: what the scanner reads, and that nothing else was there.
use Rattle.std.proofs.Common.{◌≡◌, ◌≢◌, ◌⊎◌, ℕ, List, [], ◌∷◌, ◌++◌, Some, None, refl, sym, ap, ◌∙◌, inl, inr, arith}
use Rattle.std.specs.Prelude.{encode_utf8}
use Rattle.std.proofs.lemmas.Str.{encode_same}
use Rattle.edb_scan.specs.QuoteFronts.{WritesBehindBackslash}
use Rattle.edb_scan.specs.Quotation.{Writes, IsPlain, IsHex, escaped}
use Rattle.edb_scan.proofs.QuoteLemmas.{plain_first}

-- `\x` and two digits, after the backslash
pub hex_found : (bytes rest after one : List ℕ) (letter c : ℕ) → bytes ≡ letter ∷ rest → letter ≡ 120 → rest ≡ one ++ after → IsHex (92 ∷ 120 ∷ one) c
    → (text : List ℕ) × (bytes ≡ text ++ after) × WritesBehindBackslash text c
hex_found bytes rest after one letter c e is f h = (120 ∷ one, e ∙ ap (λ t. letter ∷ t) f ∙ ap (λ x. x ∷ (one ++ after)) is, inr h)

pub no_hex : (bytes rest : List ℕ) (letter : ℕ) → bytes ≡ letter ∷ rest → letter ≡ 120
    → ((one after : List ℕ) (c : ℕ) → rest ≡ one ++ after → IsHex (92 ∷ 120 ∷ one) c → ⊥)
    → (one after : List ℕ) (c : ℕ) → bytes ≡ one ++ after → WritesBehindBackslash one c → ⊥
no_hex bytes rest letter e is none one after c f (inl h) =
    let cut = h.cut in
    let whole : letter ∷ rest ≡ h.letter ∷ after = cc in
    let same : h.letter ≡ 120 = cc in
    let value : Some c ≡ None = sym h.value ∙ ap escaped same in
    absurd (cc)
no_hex bytes rest letter e is none one after c f (inr h) =
    let cut = h.cut in
    let whole : letter ∷ rest ≡ 120 ∷ h.high ∷ h.low ∷ after = cc in
    none (h.high ∷ h.low ∷ []) after c (cc) (record { high = h.high; low = h.low; cut = refl; high_digit = h.high_digit; low_digit = h.low_digit; value = h.value })

pub no_escape : (bytes rest : List ℕ) (letter : ℕ) → bytes ≡ letter ∷ rest → letter ≢ 120 → escaped letter ≡ None
    → (one after : List ℕ) (c : ℕ) → bytes ≡ one ++ after → WritesBehindBackslash one c → ⊥
no_escape bytes rest letter e other none one after c f (inl h) =
    let cut = h.cut in
    let whole : letter ∷ rest ≡ h.letter ∷ after = cc in
    let same : h.letter ≡ letter = cc in
    let value : Some c ≡ None = sym h.value ∙ ap escaped same ∙ none in
    absurd (cc)
no_escape bytes rest letter e other none one after c f (inr h) =
    let cut = h.cut in
    let whole : letter ∷ rest ≡ 120 ∷ h.high ∷ h.low ∷ after = cc in
    other (cc)

-- a character that the quote or a backslash is stands for itself nowhere
pub no_plain : (quote : ℕ) (bytes behind : List ℕ) (c : ℕ) → bytes ≡ encode_utf8 c ++ behind → (c ≡ quote) ⊎ (c ≡ 92) → (one after : List ℕ) (d : ℕ) → bytes ≡ one ++ after → IsPlain quote one d → ⊥
no_plain quote bytes behind c e is one after d f h =
    let text = h.bytes in
    let whole : encode_utf8 c ++ behind ≡ encode_utf8 d ++ after = cc in
    let same = encode_same c d behind after whole in
    refused is same.0
  where
    refused : (c ≡ quote) ⊎ (c ≡ 92) → c ≡ d → ⊥
    refused (inl k) s = h.no_quote (sym s ∙ k)
    refused (inr k) s = h.no_backslash (sym s ∙ k)

-- after a backslash
pub escape_found : (quote : ℕ) (bytes rest after one : List ℕ) (c : ℕ) → bytes ≡ 92 ∷ rest → rest ≡ one ++ after → WritesBehindBackslash one c → (text : List ℕ) × (bytes ≡ text ++ after) × Writes quote text c
escape_found quote bytes rest after one c e f h = (92 ∷ one, e ∙ ap (λ t. 92 ∷ t) f, inr h)

pub nothing_escaped : (quote : ℕ) (bytes rest : List ℕ) → bytes ≡ 92 ∷ rest → ((one after : List ℕ) (c : ℕ) → rest ≡ one ++ after → WritesBehindBackslash one c → ⊥)
    → (one after : List ℕ) (c : ℕ) → bytes ≡ one ++ after → Writes quote one c → ⊥
nothing_escaped quote bytes rest e none one after c f (inl h) = h.no_backslash (plain_first quote 92 c one after rest h (sym f ∙ e) (omega arith))
nothing_escaped quote bytes rest e none one after c f (inr (inl h)) =
    let cut = h.cut in
    let whole : 92 ∷ rest ≡ 92 ∷ h.letter ∷ after = cc in
    none (h.letter ∷ []) after c (cc) (inl (record { letter = h.letter; cut = refl; value = h.value }))
nothing_escaped quote bytes rest e none one after c f (inr (inr h)) =
    let cut = h.cut in
    let whole : 92 ∷ rest ≡ 92 ∷ 120 ∷ h.high ∷ h.low ∷ after = cc in
    none (120 ∷ h.high ∷ h.low ∷ []) after c (cc) (inr (record { high = h.high; low = h.low; cut = refl; high_digit = h.high_digit; low_digit = h.low_digit; value = h.value }))

-- with no backslash, only a character that stands for itself
pub nothing_written : (quote : ℕ) (bytes : List ℕ) → ((rest : List ℕ) → bytes ≢ 92 ∷ rest) → ((one after : List ℕ) (c : ℕ) → bytes ≡ one ++ after → IsPlain quote one c → ⊥)
    → (one after : List ℕ) (c : ℕ) → bytes ≡ one ++ after → Writes quote one c → ⊥
nothing_written quote bytes no_backslash none one after c f (inl h) = none one after c f h
nothing_written quote bytes no_backslash none one after c f (inr (inl h)) = no_backslash (h.letter ∷ after) (f ∙ ap (λ t. t ++ after) h.cut)
nothing_written quote bytes no_backslash none one after c f (inr (inr h)) = no_backslash (120 ∷ h.high ∷ h.low ∷ after) (f ∙ ap (λ t. t ++ after) h.cut)
