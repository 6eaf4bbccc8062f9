-- What writes a character, and what stands in quotes, can be read in one way alone.
use Rattle.std.proofs.Common.{◌≡◌, ◌≢◌, ℕ, ◌<◌, ◌+◌, ◌*◌, List, [], ◌∷◌, ◌++◌, Some, None, refl, sym, ap, ◌∙◌, inl, inr, arith, append_assoc}
use Rattle.std.specs.Prelude.{encode_utf8}
use Rattle.std.specs.Char.{digit_value}
use Rattle.std.proofs.lemmas.Str.{encode_same, char_from_byte}
use Rattle.edb_scan.specs.Quotation.{Writes, IsPlain, Quotes, IsQuoted, escaped}

-- a character that is no byte of ASCII's does not begin with one
pub plain_first : (q b c : ℕ) (one u rest : List ℕ) → IsPlain q one c → one ++ u ≡ b ∷ rest → b < 128 → c ≡ b
plain_first q b c one u rest h e low =
    let whole : b ∷ rest ≡ encode_utf8 c ++ u = cc h.bytes in
    char_from_byte (b ∷ rest) u c whole low (omega arith)

-- one text begins with what writes one character, of one length
pub writes_one : (q : ℕ) (one u two w : List ℕ) (c d : ℕ) → one ++ u ≡ two ++ w → Writes q one c → Writes q two d → (c ≡ d) × (one ≡ two) × (u ≡ w)
writes_one q one u two w c d e (inl h) (inl k) =
    let whole : encode_utf8 c ++ u ≡ encode_utf8 d ++ w = cc (h.bytes, k.bytes) in
    let same = encode_same c d u w whole in
    (same.0, cc (same.0, h.bytes, k.bytes), same.1)
writes_one q one u two w c d e (inl h) (inr (inl k)) =
    let whole : one ++ u ≡ 92 ∷ (k.letter ∷ w) = cc k.cut in
    absurd (h.no_backslash (plain_first q 92 c one u _ h whole (omega arith)))
writes_one q one u two w c d e (inl h) (inr (inr k)) =
    let whole : one ++ u ≡ 92 ∷ (120 ∷ k.high ∷ k.low ∷ w) = cc k.cut in
    absurd (h.no_backslash (plain_first q 92 c one u _ h whole (omega arith)))
writes_one q one u two w c d e (inr (inl h)) (inl k) =
    let whole : two ++ w ≡ 92 ∷ (h.letter ∷ u) = cc h.cut in
    absurd (k.no_backslash (plain_first q 92 d two w _ k whole (omega arith)))
writes_one q one u two w c d e (inr (inr h)) (inl k) =
    let whole : two ++ w ≡ 92 ∷ (120 ∷ h.high ∷ h.low ∷ u) = cc h.cut in
    absurd (k.no_backslash (plain_first q 92 d two w _ k whole (omega arith)))
writes_one q one u two w c d e (inr (inl h)) (inr (inl k)) =
    let whole : 92 ∷ h.letter ∷ u ≡ 92 ∷ k.letter ∷ w = cc (h.cut, k.cut) in
    let letters : h.letter ≡ k.letter = cc in
    let values : Some c ≡ Some d = sym h.value ∙ ap escaped letters ∙ k.value in
    (cc, cc (h.cut, k.cut), cc)
writes_one q one u two w c d e (inr (inl h)) (inr (inr k)) =
    let whole : 92 ∷ h.letter ∷ u ≡ 92 ∷ (120 ∷ k.high ∷ k.low ∷ w) = cc (h.cut, k.cut) in
    let letters : h.letter ≡ 120 = cc in
    let values : Some c ≡ None = sym h.value ∙ ap escaped letters in
    absurd (cc)
writes_one q one u two w c d e (inr (inr h)) (inr (inl k)) =
    let whole : 92 ∷ (120 ∷ h.high ∷ h.low ∷ u) ≡ 92 ∷ k.letter ∷ w = cc (h.cut, k.cut) in
    let letters : k.letter ≡ 120 = cc in
    let values : Some d ≡ None = sym k.value ∙ ap escaped letters in
    absurd (cc)
writes_one q one u two w c d e (inr (inr h)) (inr (inr k)) =
    let whole : 92 ∷ 120 ∷ h.high ∷ h.low ∷ u ≡ 92 ∷ 120 ∷ k.high ∷ k.low ∷ w = cc (h.cut, k.cut) in
    let highs : h.high ≡ k.high = cc in
    let lows : h.low ≡ k.low = cc in
    (h.value ∙ ap (λ x. digit_value x * 16 + digit_value h.low) highs ∙ ap (λ x. digit_value k.high * 16 + digit_value x) lows ∙ sym k.value, cc (h.cut, k.cut), cc)

-- the quote itself writes nothing between quotes
pub quote_writes_nothing : (q : ℕ) (one u rest : List ℕ) (c : ℕ) → q < 128 → q ≢ 92 → one ++ u ≡ q ∷ rest → Writes q one c → ⊥
quote_writes_nothing q one u rest c low other e (inl h) = h.no_quote (plain_first q q c one u rest h e low)
quote_writes_nothing q one u rest c low other e (inr (inl h)) = let whole : q ∷ rest ≡ 92 ∷ (h.letter ∷ u) = cc h.cut in let same : q ≡ 92 = cc in other same
quote_writes_nothing q one u rest c low other e (inr (inr h)) = let whole : q ∷ rest ≡ 92 ∷ (120 ∷ h.high ∷ h.low ∷ u) = cc h.cut in let same : q ≡ 92 = cc in other same

module _ (q : ℕ) (low : q < 128) (other : q ≢ 92) where
  -- a text in quotes ends at one place alone
  pub quotes_one : (cs ds inner outer u w : List ℕ) → inner ++ q ∷ u ≡ outer ++ q ∷ w → Quotes q inner cs → Quotes q outer ds → (cs ≡ ds) × (inner ≡ outer) × (u ≡ w)
  quotes_one [] [] inner outer u w e h k =
      let whole : q ∷ u ≡ q ∷ w = cc (h, k) in
      (refl, cc (h, k), cc)
  quotes_one [] (d ∷ ds) inner outer u w e h (two, rest, cut, writes, quotes) =
      let whole : two ++ (rest ++ q ∷ w) ≡ q ∷ u = sym (append_assoc two rest (q ∷ w)) ∙ cc (h, cut, e) in
      absurd (quote_writes_nothing q two (rest ++ q ∷ w) u d low other whole writes)
  quotes_one (c ∷ cs) [] inner outer u w e (one, rest, cut, writes, quotes) k =
      let whole : one ++ (rest ++ q ∷ u) ≡ q ∷ w = sym (append_assoc one rest (q ∷ u)) ∙ cc (k, cut, e) in
      absurd (quote_writes_nothing q one (rest ++ q ∷ u) w c low other whole writes)
  quotes_one (c ∷ cs) (d ∷ ds) inner outer u w e (one, rest, cut, writes, quotes) (two, more, cut2, writes2, quotes2) =
      let left : (one ++ rest) ++ q ∷ u ≡ one ++ (rest ++ q ∷ u) = append_assoc one rest (q ∷ u) in
      let right : (two ++ more) ++ q ∷ w ≡ two ++ (more ++ q ∷ w) = append_assoc two more (q ∷ w) in
      let whole : one ++ (rest ++ q ∷ u) ≡ two ++ (more ++ q ∷ w) = cc (cut, cut2, e) in
      let first = writes_one q one (rest ++ q ∷ u) two (more ++ q ∷ w) c d whole writes writes2 in
      let others = quotes_one cs ds rest more u w first.2 quotes quotes2 in
      (cc (first.0, others.0), cc (first.1, others.1, cut, cut2), others.2)

  pub quoted_one : (text u more w cs ds : List ℕ) → text ++ u ≡ more ++ w → IsQuoted q text cs → IsQuoted q more ds → (cs ≡ ds) × (text ≡ more)
  quoted_one text u more w cs ds e h k =
      let left : (h.inner ++ q ∷ []) ++ u ≡ h.inner ++ q ∷ u = append_assoc h.inner (q ∷ []) u in
      let right : (k.inner ++ q ∷ []) ++ w ≡ k.inner ++ q ∷ w = append_assoc k.inner (q ∷ []) w in
      let whole : q ∷ ((h.inner ++ q ∷ []) ++ u) ≡ q ∷ ((k.inner ++ q ∷ []) ++ w) = cc (h.cut, k.cut) in
      let inside : h.inner ++ q ∷ u ≡ k.inner ++ q ∷ w = cc in
      let same = quotes_one cs ds h.inner k.inner u w inside h.quotes k.quotes in
      (same.0, cc (same.1, h.cut, k.cut))
