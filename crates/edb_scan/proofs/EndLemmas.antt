-- The way to the closing quote, character by character.
use Rattle.std.proofs.Common.{◌≡◌, ◌≢◌, ℕ, ◌≤◌, ◌<◌, List, [], ◌∷◌, ◌++◌, length, refl, sym, ap, ◌∙◌, inl, inr, arith, length-append, append_assoc, append-nil}
use Rattle.std.specs.Prelude.{encode_utf8, encode_utf8_all}
use Rattle.std.proofs.lemmas.Str.{encodes-append}
use Rattle.edb_scan.specs.QuoteFronts.{UpTo, NoEnd}
use Rattle.edb_scan.specs.Quotation.{Writes, Quotes}
use Rattle.edb_scan.proofs.CharLemmas.{encode_some}
use Rattle.edb_scan.proofs.QuoteLemmas.{writes_one}

-- what writes a character takes a byte at least
writes_some : (q : ℕ) (one : List ℕ) (c : ℕ) → Writes q one c → 1 ≤ length one
writes_some q one c (inl h) = let some = encode_some c in omega (arith, ap length h.bytes)
writes_some q one c (inr (inl h)) = omega (arith, ap length h.cut)
writes_some q one c (inr (inr h)) = omega (arith, ap length h.cut)

pub writes_shorter : (q : ℕ) (rest one after : List ℕ) (c : ℕ) → rest ≡ one ++ after → Writes q one c → length after < length rest
writes_shorter q rest one after c e h = let some = writes_some q one c h in omega (arith, ap length e, length-append one after)

-- the quote stands here
pub end_here : (q first : ℕ) (rest behind : List ℕ) → rest ≡ first ∷ behind → first ≡ q → UpTo q rest behind []
end_here q first rest behind e is = record { inner = []; cut = e ∙ ap (λ x. x ∷ behind) is; quotes = refl }

-- after one more character
pub end_behind : (q : ℕ) (rest one after more cs : List ℕ) (c : ℕ) → rest ≡ one ++ after → Writes q one c → UpTo q after more cs → UpTo q rest more (c ∷ cs)
end_behind q rest one after more cs c e h up =
    record { inner = one ++ up.inner; cut = e ∙ ap (λ t. one ++ t) up.cut ∙ sym (append_assoc one up.inner (q ∷ more)); quotes = (one, up.inner, refl, h, up.quotes) }

pub characters_so_far : (text more out : List ℕ) (c : ℕ) → text ≡ encode_utf8_all out → more ≡ text ++ encode_utf8 c → more ≡ encode_utf8_all (out ++ c ∷ [])
characters_so_far text more out c e f = f ∙ ap (λ t. t ++ encode_utf8 c) e ∙ ap (λ t. encode_utf8_all out ++ t) (sym (append-nil (encode_utf8 c))) ∙ sym (encodes-append out (c ∷ []))

-- no closing quote, if nothing is left
pub no_end_empty : (q : ℕ) (rest : List ℕ) → length rest ≡ 0 → NoEnd q rest
no_end_empty q rest e after cs up = absurd (omega (arith, ap length up.cut, length-append up.inner (q ∷ after)))

not_here : (q first : ℕ) (rest behind after : List ℕ) → rest ≡ first ∷ behind → first ≢ q → UpTo q rest after [] → ⊥
not_here q first rest behind after e other up =
    let whole : first ∷ behind ≡ q ∷ after = sym e ∙ up.cut ∙ ap (λ t. t ++ q ∷ after) up.quotes in
    other (cc)

-- if nothing writes a character
pub no_end_stuck : (q first : ℕ) (rest behind : List ℕ) → rest ≡ first ∷ behind → first ≢ q
    → ((one after : List ℕ) (c : ℕ) → rest ≡ one ++ after → Writes q one c → ⊥) → NoEnd q rest
no_end_stuck q first rest behind e other none after [] up = not_here q first rest behind after e other up
no_end_stuck q first rest behind e other none after (d ∷ ds) up = stuck up.quotes
  where
    stuck : ((one : List ℕ) × (inner : List ℕ) × (up.inner ≡ one ++ inner) × Writes q one d × Quotes q inner ds) → ⊥
    stuck (one, inner, cut, writes, quotes) = none one (inner ++ q ∷ after) d (up.cut ∙ ap (λ t. t ++ q ∷ after) cut ∙ append_assoc one inner (q ∷ after)) writes

-- if none stands after the next character
pub no_end_behind : (q first : ℕ) (rest behind one after : List ℕ) (c : ℕ) → rest ≡ first ∷ behind → first ≢ q → rest ≡ one ++ after → Writes q one c → NoEnd q after → NoEnd q rest
no_end_behind q first rest behind one after c e other f writes none more [] up = not_here q first rest behind more e other up
no_end_behind q first rest behind one after c e other f writes none more (d ∷ ds) up = further up.quotes
  where
    further : ((two : List ℕ) × (inner : List ℕ) × (up.inner ≡ two ++ inner) × Writes q two d × Quotes q inner ds) → ⊥
    further (two, inner, cut, writes2, quotes) =
        let whole : one ++ after ≡ two ++ (inner ++ q ∷ more) = sym f ∙ up.cut ∙ ap (λ t. t ++ q ∷ more) cut ∙ append_assoc two inner (q ∷ more) in
        let same = writes_one q one after two (inner ++ q ∷ more) c d whole writes writes2 in
        none more ds (record { inner = inner; cut = same.2; quotes = quotes })
