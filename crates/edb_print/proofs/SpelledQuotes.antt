-- Strings and atoms in quotes: their spellings are read again.

use Rattle.std.proofs.Common.{◌≡◌, ◌≢◌, ℕ, ◌/◌, ◌%◌, ◌<◌, ◌≤◌, Bool, true, false, ◌&&◌, ◌||◌, ◌==◌, leb, List, [], ◌∷◌, ◌++◌, map, length, Option, Some, None, refl, sym, ap, ◌∙◌, subst, inl, inr, ⊎_elim, arith, append_assoc, append-nil, nat_lt, ◌⊎◌}
use Rattle.std.specs.Prelude.{IsUtf8, chars, encode_utf8, encode_utf8_all}
use Rattle.std.specs.Char.{IsScalar, digit_value}
use Rattle.std.specs.Fmt.{digit_glyph}
use Rattle.std.specs.List.{list_all, flat_map}
use Rattle.std.specs.Str.{all_scalars}
use Rattle.std.proofs.lemmas.Bool.{and_parts, and_from, or_cases, eqb-true, leb-true}
use Rattle.std.proofs.lemmas.Bool.Decides.{nat_tests}
use Rattle.std.proofs.lemmas.Grind.{flat_map-append}
use Rattle.std.proofs.lemmas.List.Folds.{list_all-append}
use Rattle.std.proofs.lemmas.Str.{encode_ascii}
use Rattle.std.proofs.str.Laws.{Shape, of1, of2, of3, of4, shape}
use lib.Utf8.{scalar, scalar_cases, low_scalar}
use Rattle.edb_lang.specs.TermText.{escaped, letter_of, quoted}
use Rattle.edb_scan.specs.declared.lexeme.Token.TheVariants.{Atom, Str}
use Rattle.edb_scan.specs.Lexis.{Begins, Fits, stays_in_line}
use Rattle.edb_scan.specs.Quotation.{Writes, Quotes, escaped as letter_value}
use Rattle.edb_scan.specs.QuoteFronts.{UpTo}
use Rattle.edb_scan.proofs.QuotedFound.{string_found, quoted_atom_found}
use Rattle.edb_print.specs.Pieces.{shown}

-- each letter of an escape stands for the character for which it was put, which is one of ASCII
letter_back : (c l : ℕ) → letter_of c ≡ Some l → letter_value l ≡ Some c
letter_back c l e = grind (arith, nat_tests)

letter_low : (c l : ℕ) → letter_of c ≡ Some l → c < 128
letter_low c l e = grind (arith, nat_tests)

letter_stays : (c l : ℕ) → letter_of c ≡ Some l → stays_in_line l ≡ true
letter_stays c l e = grind (arith, nat_tests)

hex_digit : (d : ℕ) → d < 16 → digit_value (digit_glyph false d) ≡ d
hex_digit d h = grind (arith, nat_tests)

hex_stays : (d : ℕ) → d < 16 → stays_in_line (digit_glyph false d) ≡ true
hex_stays d h = grind (arith, nat_tests)

-- each byte of a character that isn't ASCII is 128 or more
high_encoded : (c : ℕ) → Shape c → 128 ≤ c → list_all (λ b. leb 128 b) (encode_utf8 c) ≡ true
high_encoded c (of1 small e) large = absurd (omega arith)
high_encoded c (of2 a b least most f sum e) large = rw e (grind (arith, nat_tests))
high_encoded c (of3 a b d least most f g sum e) large = rw e (grind (arith, nat_tests))
high_encoded c (of4 a b d x least most f g h sum e) large = rw e (grind (arith, nat_tests))

by_size : (c : ℕ) → (c < 128) ⊎ (128 ≤ c)
by_size c = grind arith

-- A byte between quotes q: the quote or a backslash after a backslash; a letter after one; two digits; or itself.
by_form : (P : List ℕ → Type 0) (q c : ℕ)
    → ((c ≡ q) ⊎ (c ≡ 92) → P (92 ∷ c ∷ []))
    → ((l : ℕ) → letter_of c ≡ Some l → P (92 ∷ l ∷ []))
    → (c < 32 → P (92 ∷ 120 ∷ digit_glyph false (c / 16) ∷ digit_glyph false (c % 16) ∷ []))
    → (c ≢ q → c ≢ 92 → 32 ≤ c → P (c ∷ []))
    → P (escaped q c)
by_form P q c itself letter digits plain = first (c == q || c == 92) refl
  where
    third : (o : Option ℕ) → letter_of c ≡ o → (c == q || c == 92) ≡ false → (nat_lt c 32 || c == 127) ≡ true → P (escaped q c)
    third (Some l) e g h = rw g (rw h (rw e (letter l e)))
    third None e g h = rw g (rw h (rw e (digits (grind (arith, nat_tests)))))

    second : (b : Bool) → (nat_lt c 32 || c == 127) ≡ b → (c == q || c == 92) ≡ false → P (escaped q c)
    second true h g = third (letter_of c) refl g h
    second false h g = rw g (rw h (plain (λ e. grind (arith, nat_tests)) (λ e. grind (arith, nat_tests)) (grind (arith, nat_tests))))

    first : (b : Bool) → (c == q || c == 92) ≡ b → P (escaped q c)
    first true h = rw h (itself (⊎_elim (λ (e : (c == q) ≡ true). inl (eqb-true c q e)) (λ (e : (c == 92) ≡ true). inr (eqb-true c 92 e)) (or_cases (c == q) (c == 92) h)))
    first false h = second (nat_lt c 32 || c == 127) refl h

-- no byte is written by a line's end
escaped_in_line : (q c : ℕ) → stays_in_line q ≡ true → list_all stays_in_line (escaped q c) ≡ true
escaped_in_line q c h =
    by_form (λ t. list_all stays_in_line t ≡ true) q c itself (λ l e. and_from (stays_in_line l) true (letter_stays c l e) refl) digits
    (λ other backslash some. grind (arith, nat_tests))
  where
    itself : (c ≡ q) ⊎ (c ≡ 92) → list_all stays_in_line (92 ∷ c ∷ []) ≡ true
    itself (inl e) = and_from (stays_in_line c) true (ap stays_in_line e ∙ h) refl
    itself (inr e) = and_from (stays_in_line c) true (ap stays_in_line e) refl

    digits : c < 32 → list_all stays_in_line (92 ∷ 120 ∷ digit_glyph false (c / 16) ∷ digit_glyph false (c % 16) ∷ []) ≡ true
    digits below =
        and_from (stays_in_line (digit_glyph false (c / 16))) (stays_in_line (digit_glyph false (c % 16)) && true) (hex_stays (c / 16) (omega arith))
        (and_from (stays_in_line (digit_glyph false (c % 16))) true (hex_stays (c % 16) (omega arith)) refl)

inner_in_line : (q : ℕ) (bytes : List ℕ) → stays_in_line q ≡ true → list_all stays_in_line (flat_map (escaped q) bytes) ≡ true
inner_in_line q [] h = refl
inner_in_line q (c ∷ cs) h =
    list_all-append stays_in_line (escaped q c) (flat_map (escaped q) cs)
    ∙ and_from (list_all stays_in_line (escaped q c)) (list_all stays_in_line (flat_map (escaped q) cs)) (escaped_in_line q c h) (inner_in_line q cs h)

-- what stands between quotes has no line's end in it
pub quoted_in_line : (q : ℕ) (bytes : List ℕ) → stays_in_line q ≡ true → list_all stays_in_line (quoted q bytes) ≡ true
quoted_in_line q bytes h =
    and_from (stays_in_line q) (list_all stays_in_line (flat_map (escaped q) bytes ++ (q ∷ []))) h
    (list_all-append stays_in_line (flat_map (escaped q) bytes) (q ∷ [])
    ∙ and_from (list_all stays_in_line (flat_map (escaped q) bytes)) (stays_in_line q && true) (inner_in_line q bytes h) (and_from (stays_in_line q) true h refl))

module _ (q : ℕ) (own : letter_value q ≡ Some q) (ascii : q < 128) where
  -- a byte of ASCII is written by what stands for it
  low_written : (c : ℕ) → c < 128 → Writes q (escaped q c) c
  low_written c small = by_form (λ t. Writes q t c) q c itself (λ l e. inr (inl (record { letter = l; cut = refl; value = letter_back c l e }))) digits
      (λ other backslash large. inl (record { scalar = low_scalar c (omega arith); bytes = sym (encode_ascii c small); no_quote = other; no_backslash = backslash }))
    where
      itself : (c ≡ q) ⊎ (c ≡ 92) → Writes q (92 ∷ c ∷ []) c
      itself (inl e) = inr (inl (record { letter = c; cut = refl; value = ap letter_value e ∙ own ∙ ap Some (sym e) }))
      itself (inr e) = inr (inl (record { letter = c; cut = refl; value = ap letter_value e ∙ ap Some (sym e) }))

      digits : c < 32 → Writes q (92 ∷ 120 ∷ digit_glyph false (c / 16) ∷ digit_glyph false (c % 16) ∷ []) c
      digits below =
          let high = hex_digit (c / 16) (omega arith) in
          let low = hex_digit (c % 16) (omega arith) in
          inr (inr (record {
            high = digit_glyph false (c / 16);
            low = digit_glyph false (c % 16);
            cut = refl;
            high_digit = omega arith;
            low_digit = omega arith;
            value = omega arith;
          }))

  -- a byte of another character stands for itself
  high_alone : (c : ℕ) → 128 ≤ c → escaped q c ≡ c ∷ []
  high_alone c large = by_form (λ t. t ≡ c ∷ []) q c (λ e. absurd (omega arith)) (λ l e. let low = letter_low c l e in absurd (omega arith)) (λ below. absurd (omega arith)) (λ other backslash some. refl)

  all_alone : (bytes : List ℕ) → list_all (λ c. leb 128 c) bytes ≡ true → flat_map (escaped q) bytes ≡ bytes
  all_alone [] h = refl
  all_alone (c ∷ cs) h =
      let parts = and_parts (leb 128 c) (list_all (λ c. leb 128 c) cs) h in
      ap (λ t. t ++ flat_map (escaped q) cs) (high_alone c (leb-true 128 c parts.0)) ∙ ap (λ t. c ∷ t) (all_alone cs parts.1)

  -- a character is written by what stands for its bytes
  one_written : (c : ℕ) → IsScalar c → Writes q (flat_map (escaped q) (encode_utf8 c)) c
  one_written c s = ⊎_elim small large (by_size c)
    where
      small : c < 128 → Writes q (flat_map (escaped q) (encode_utf8 c)) c
      small h =
          let same : flat_map (escaped q) (encode_utf8 c) ≡ escaped q c = ap (λ t. flat_map (escaped q) t) (encode_ascii c h) ∙ append-nil (escaped q c) in
          let P : List ℕ → Type 0 = λ t. Writes q t c in
          subst P (sym same) (low_written c h)

      large : 128 ≤ c → Writes q (flat_map (escaped q) (encode_utf8 c)) c
      large h =
          let same : flat_map (escaped q) (encode_utf8 c) ≡ encode_utf8 c = all_alone (encode_utf8 c) (high_encoded c (shape c (scalar_cases c s)) h) in
          inl (record { scalar = s; bytes = same; no_quote = λ e. absurd (omega arith); no_backslash = λ e. absurd (omega arith) })

  all_written : (cs : List ℕ) → all_scalars cs ≡ true → Quotes q (flat_map (escaped q) (encode_utf8_all cs)) cs
  all_written [] h = refl
  all_written (c ∷ cs) h =
      let parts = and_parts (scalar c) (all_scalars cs) h in (
        flat_map (escaped q) (encode_utf8 c),
        flat_map (escaped q) (encode_utf8_all cs),
        flat_map-append (escaped q) (encode_utf8 c) (encode_utf8_all cs),
        one_written c parts.0,
        all_written cs parts.1,
      )

  -- up to the closing quote the spelling writes the characters
  up_to : (cs rest : List ℕ) → all_scalars cs ≡ true → UpTo q ((flat_map (escaped q) (encode_utf8_all cs) ++ (q ∷ [])) ++ rest) rest cs
  up_to cs rest h = record {
    inner = flat_map (escaped q) (encode_utf8_all cs);
    cut = append_assoc (flat_map (escaped q) (encode_utf8_all cs)) (q ∷ []) rest;
    quotes = all_written cs h;
  }

shown_same : (cs : List ℕ) → all_scalars cs ≡ true → map shown cs ≡ cs
shown_same [] h = refl
shown_same (c ∷ cs) h =
    let parts = and_parts (scalar c) (all_scalars cs) h in
    let same : shown c ≡ c = rw parts.0 refl in
    ap (λ d. d ∷ map shown cs) same ∙ ap (λ ds. c ∷ ds) (shown_same cs parts.1)

pub string_spelled : (cs rest : List ℕ) → all_scalars cs ≡ true → Begins (quoted 34 (encode_utf8_all (map shown cs)) ++ rest) rest (Some (Str cs)) × Fits (Some (Str cs))
string_spelled cs rest h =
    let P : List ℕ → Type 0 = λ ds. Begins (quoted 34 (encode_utf8_all ds) ++ rest) rest (Some (Str cs)) × Fits (Some (Str cs)) in
    subst P (sym (shown_same cs h)) (string_found ((flat_map (escaped 34) (encode_utf8_all cs) ++ (34 ∷ [])) ++ rest) rest cs (up_to 34 refl (omega arith) cs rest h))

pub quoted_atom_spelled : (name rest : List ℕ) → IsUtf8 name → length (chars name) ≤ 255 → Begins (quoted 39 name ++ rest) rest (Some (Atom name)) × Fits (Some (Atom name))
quoted_atom_spelled name rest (cs, text) short =
    let P : List ℕ → Type 0 = λ bytes. UpTo 39 ((flat_map (escaped 39) bytes ++ (39 ∷ [])) ++ rest) rest cs in
    quoted_atom_found ((flat_map (escaped 39) name ++ (39 ∷ [])) ++ rest) rest cs name (subst P text.1 (up_to 39 refl (omega arith) cs rest text.0)) (sym text.1) short
