-- Strings, atoms in quotes and characters: what the scanner finds is the longest of its class.
use Rattle.std.proofs.Common.{◌≡◌, ℕ, ◌≤◌, ◌<◌, true, List, [], ◌∷◌, ◌++◌, length, Some, refl, sym, ap, ◌∙◌, subst, inl, inr, arith, append_assoc}
use Rattle.std.specs.Prelude.{encode_utf8_all, chars}
use Rattle.std.specs.Char.{IsScalar}
use Rattle.std.specs.Str.{all_scalars}
use Rattle.std.proofs.lemmas.Bool.{and_from}
use Rattle.std.proofs.lemmas.Bool.Decides.{nat_tests}
use Rattle.std.proofs.lemmas.Str.{chars-encodes}
use lib.Utf8.{low_scalar}
use Rattle.edb_scan.specs.declared.classes.Class.TheVariants.{Quote, Tick, Dollar}
use Rattle.edb_scan.specs.declared.lexeme.Token.TheVariants.{Char, Atom, Str}
use Rattle.edb_scan.specs.Fronts.{NothingFits}
use Rattle.edb_scan.specs.QuoteFronts.{UpTo, NoEnd}
use Rattle.edb_scan.specs.Lexis.{Begins, Fits}
use Rattle.edb_scan.specs.Quotation.{Writes, Quotes, IsQuoted, escaped, no_quote}
use Rattle.edb_scan.proofs.ByClass.{quote, tick, dollar}
use Rattle.edb_scan.proofs.OnePiece.{nothing_by, past_limit}
use Rattle.edb_scan.proofs.QuoteLemmas.{writes_one, quoted_one}
use Rattle.edb_scan.proofs.ShortKinds.{begins_by}

-- what is written is a character
escaped_low : (letter c : ℕ) → escaped letter ≡ Some c → c < 128
escaped_low letter c e = grind (arith, nat_tests)

writes_scalar : (q : ℕ) (one : List ℕ) (c : ℕ) → Writes q one c → IsScalar c
writes_scalar q one c (inl h) = h.scalar
writes_scalar q one c (inr (inl h)) = let low = escaped_low h.letter c h.value in low_scalar c (omega arith)
writes_scalar q one c (inr (inr h)) = let high = h.high_digit in let low = h.low_digit in let value = h.value in low_scalar c (omega arith)

quotes_scalars : (q : ℕ) (inner cs : List ℕ) → Quotes q inner cs → all_scalars cs ≡ true
quotes_scalars q inner [] h = refl
quotes_scalars q inner (c ∷ cs) (one, rest, cut, writes, quotes) = and_from _ _ (writes_scalar q one c writes) (quotes_scalars q rest cs quotes)

pub characters : (q : ℕ) (rest after cs : List ℕ) → UpTo q rest after cs → chars (encode_utf8_all cs) ≡ cs
characters q rest after cs up = chars-encodes cs (quotes_scalars q up.inner cs up.quotes)

-- a text in quotes and what comes after it
quoted_of : (q : ℕ) (rest after cs : List ℕ) (up : UpTo q rest after cs) → IsQuoted q (q ∷ (up.inner ++ q ∷ [])) cs
quoted_of q rest after cs up = record { inner = up.inner; cut = refl; quotes = up.quotes }

quoted_cut : (q : ℕ) (rest after cs : List ℕ) (up : UpTo q rest after cs) → q ∷ rest ≡ (q ∷ (up.inner ++ q ∷ [])) ++ after
quoted_cut q rest after cs up = ap (λ t. q ∷ t) (up.cut ∙ sym (append_assoc up.inner (q ∷ []) after))

up_to_of : (q : ℕ) (rest text after cs : List ℕ) → q ∷ rest ≡ text ++ after → IsQuoted q text cs → UpTo q rest after cs
up_to_of q rest text after cs e h =
    let cut = h.cut in
    let shift : (h.inner ++ q ∷ []) ++ after ≡ h.inner ++ q ∷ after = append_assoc h.inner (q ∷ []) after in
    let whole : q ∷ rest ≡ q ∷ ((h.inner ++ q ∷ []) ++ after) = cc in
    record { inner = h.inner; cut = cc; quotes = h.quotes }

pub string_found : (rest after cs : List ℕ) → UpTo 34 rest after cs → Begins (34 ∷ rest) after (Some (Str cs)) × Fits (Some (Str cs))
string_found rest after cs up = (
  begins_by Quote 34 rest (34 ∷ (up.inner ++ 34 ∷ [])) after (Some (Str cs)) (quote 34 refl) (quoted_cut 34 rest after cs up) (quoted_of 34 rest after cs up)
      (λ t u o e h.
      let same = quoted_one 34 (omega arith) (λ k. absurd (omega arith)) (34 ∷ (up.inner ++ 34 ∷ [])) after t u cs h.0 (sym (quoted_cut 34 rest after cs up) ∙ e) (quoted_of 34 rest after cs up) h.1 in
      omega (arith, ap length same.1)),
  tt,
)

pub no_string : (rest : List ℕ) → NoEnd 34 rest → NothingFits (34 ∷ rest)
no_string rest none = nothing_by Quote 34 rest (quote 34 refl) (λ t u o e h. none u h.0 (up_to_of 34 rest t u h.0 e h.1))

atom_begins : (rest after cs : List ℕ) → UpTo 39 rest after cs → Begins (39 ∷ rest) after (Some (Atom (encode_utf8_all cs)))
atom_begins rest after cs up =
    begins_by Tick 39 rest (39 ∷ (up.inner ++ 39 ∷ [])) after (Some (Atom (encode_utf8_all cs))) (tick 39 refl) (quoted_cut 39 rest after cs up)
    (inr (record { characters = cs; quoted = quoted_of 39 rest after cs up; named = refl }))
    (λ t u o e h.
    let same = quoted_one 39 (omega arith) (λ k. absurd (omega arith)) (39 ∷ (up.inner ++ 39 ∷ [])) after t u cs h.1.characters (sym (quoted_cut 39 rest after cs up) ∙ e) (quoted_of 39 rest after cs up) h.1.quoted in
    omega (arith, ap length same.1))

pub quoted_atom_found : (rest after cs name : List ℕ) → UpTo 39 rest after cs → name ≡ encode_utf8_all cs → length (chars name) ≤ 255 → Begins (39 ∷ rest) after (Some (Atom name)) × Fits (Some (Atom name))
quoted_atom_found rest after cs name up named short =
    let P : List ℕ → Type 0 = λ n. Begins (39 ∷ rest) after (Some (Atom n)) in
    (subst P (sym named) (atom_begins rest after cs up), short)

pub quoted_atom_too_long : (rest after cs name : List ℕ) → UpTo 39 rest after cs → name ≡ encode_utf8_all cs → 255 < length (chars name) → NothingFits (39 ∷ rest)
quoted_atom_too_long rest after cs name up named long =
    past_limit (39 ∷ rest) after (Some (Atom (encode_utf8_all cs))) (atom_begins rest after cs up)
    (λ (fits : length (chars (encode_utf8_all cs)) ≤ 255). absurd (omega (arith, ap (λ n. length (chars n)) named)))

pub no_quoted_atom : (rest : List ℕ) → NoEnd 39 rest → NothingFits (39 ∷ rest)
no_quoted_atom rest none = nothing_by Tick 39 rest (tick 39 refl) (λ t u o e h. none u h.1.characters (up_to_of 39 rest t u h.1.characters e h.1.quoted))

pub char_found : (rest one after : List ℕ) (c : ℕ) → rest ≡ one ++ after → Writes no_quote one c → Begins (36 ∷ rest) after (Some (Char c)) × Fits (Some (Char c))
char_found rest one after c f writes = (
  begins_by Dollar 36 rest (36 ∷ one) after (Some (Char c)) (dollar 36 refl) (ap (λ t. 36 ∷ t) f) (record { one = one; cut = refl; writes = writes })
      (λ t u o e h.
      let cut = h.1.cut in
      let both : one ++ after ≡ h.1.one ++ u = cc in
      let same = writes_one no_quote one after h.1.one u c h.0 both writes h.1.writes in
      omega (arith, ap length h.1.cut, ap length same.1)),
  tt,
)

pub no_char : (rest : List ℕ) → ((one after : List ℕ) (c : ℕ) → rest ≡ one ++ after → Writes no_quote one c → ⊥) → NothingFits (36 ∷ rest)
no_char rest none = nothing_by Dollar 36 rest (dollar 36 refl) (λ t u o e h.
    let cut = h.1.cut in
    let inner : rest ≡ h.1.one ++ u = cc in
    none h.1.one u h.0 inner h.1.writes)
