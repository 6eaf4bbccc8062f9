-- A literal term is read just where the grammar has it, and tokens are one at most.

use Rattle.std.proofs.Common.{◌≡◌, ℕ, zero, suc, pos, neg_ℤ, ◌+◌, ◌≤◌, ◌<◌, false, ◌&&◌, if◌then◌else◌, List, [], ◌∷◌, ◌++◌, Option, Some, None, refl, sym, ◌∙◌, ap, subst, append_assoc, append-nil, arith}
use Rattle.edb_scan.specs.declared.lexeme.Mark.TheVariants as mark
use Rattle.edb_scan.specs.declared.lexeme.Placed.{Placed}
use Rattle.edb_lang.specs.Terms.{Datum, tuple, int, nil, Datums, none, more, height, heights, size, sizes, most_high, most_large, IsWithin}
use Rattle.edb_syntax.specs.Patterns.{Pat, Pats}
use Rattle.edb_grammar.specs.Toks.{Place, Tok, word, places, most_integer}
use Rattle.edb_grammar.specs.Patterns as pattern
use Rattle.edb_grammar.specs.Patterns.{ReadsPat, ReadsPats, ReadsPatsOrNone}
use Rattle.edb_grammar.specs.Literals.{text_term, list_term, ReadsTerm, ReadsTerms, ReadsTermsOrNone, t_integer, t_negative, t_character, t_atom, t_string, t_tuple, t_list, t_list_with_tail, one_term, more_terms, no_terms, some_terms, IsLiteral}
use Rattle.edb_grammar.specs.Reading.{Read, provided, behind, closed, made, onward, fork, more_text, behind_text}
use Rattle.edb_grammar.specs.LiteralReading.{read_terms, read_tuple, with_tail, read_end, read_list_term, kept, term_at, read_term, deepest_term, literal_of, read_literal}
use Rattle.edb_grammar.proofs.Parts.{some_is, none_no}
use Rattle.edb_grammar.proofs.Follow.{begins_text}
use Rattle.edb_grammar.proofs.LiteralSound.{term_sound, term_within}
use Rattle.edb_grammar.proofs.ListComplete.{Listed, last_listed, next_listed, listed_whole}
use Rattle.edb_grammar.proofs.PatternComplete.{le_is, string_whole, pats_begin, pat_length, reclosed}

-- the tokens of a term are a pattern too
mutual
  term_pat : {ts : List Tok} {d : Datum} → ReadsTerm ts d → (p : Pat) × ReadsPat 0 ts p
  term_pat (t_integer small) = (_, pattern.p_integer small)
  term_pat (t_negative small) = (_, pattern.p_negative small)
  term_pat t_character = (_, pattern.p_character)
  term_pat t_atom = (_, pattern.p_atom)
  term_pat (t_string r) = (_, pattern.p_string r)
  term_pat (t_tuple o c r) = (_, pattern.p_tuple o c (or_none_pats r).1)
  term_pat (t_list o c r) = (_, pattern.p_list o c (or_none_pats r).1)
  term_pat (t_list_with_tail o b c r t) = (_, pattern.p_list_with_tail o b c (terms_pats r).1 (term_pat t).1)

  terms_pats : {ts : List Tok} {ds : Datums} → ReadsTerms ts ds → (ps : Pats) × ReadsPats ts ps
  terms_pats (one_term r) = (_, pattern.one_pattern (term_pat r).1)
  terms_pats (more_terms s r rs) = (_, pattern.more_patterns s (term_pat r).1 (terms_pats rs).1)

  or_none_pats : {ts : List Tok} {ds : Datums} → ReadsTermsOrNone ts ds → (ps : Pats) × ReadsPatsOrNone ts ps
  or_none_pats no_terms = (_, pattern.no_patterns)
  or_none_pats (some_terms r) = (_, pattern.some_patterns (terms_pats r).1)

-- within the limits, and less high than n
record Small (n : ℕ) (d : Datum) : Type 0 where
  low : height d < n
  within : IsWithin d

-- terms so small that a term of them may be
record Parts (n : ℕ) (ds : Datums) : Type 0 where
  low : heights ds < n
  high : heights ds ≤ most_high
  large : sizes ds ≤ most_large

-- a list is higher and larger than its elements and its tail
list_high : (ds : Datums) (t : Datum) → (heights ds ≤ height (list_term ds t)) × (height t ≤ height (list_term ds t))
list_high none t = (omega arith, omega arith)
list_high (more d ds) t = let h = list_high ds t in (omega (arith, h.0), omega (arith, h.1))

list_higher : {ts : List Tok} {ds : Datums} → ReadsTerms ts ds → (t : Datum)
    → (heights ds < height (list_term ds t)) × (height t < height (list_term ds t))
list_higher (one_term {d} r) t = (omega arith, omega arith)
list_higher (more_terms {d} {ds} s r rs) t = let h = list_high ds t in (omega (arith, h.0), omega (arith, h.1))

list_large : (ds : Datums) (t : Datum) → sizes ds + size t ≤ size (list_term ds t)
list_large none t = omega arith
list_large (more d ds) t = omega (arith, list_large ds t)

list_parts : (n : ℕ) {ts : List Tok} {ds : Datums} → ReadsTerms ts ds → (t : Datum) → Small (suc n) (list_term ds t) → Parts n ds
list_parts n {ds} r t w =
    let g = (list_higher r t).0 in
    record {
      low = omega (arith, g, w.low);
      high = omega (arith, g, w.within.height);
      large = omega (arith, list_large ds t, w.within.size);
    }

list_tail : (n : ℕ) {ts : List Tok} {ds : Datums} → ReadsTerms ts ds → (t : Datum) → Small (suc n) (list_term ds t) → Small n t
list_tail n {ds} r t w =
    let g = (list_higher r t).1 in
    record {
      low = omega (arith, g, w.low);
      within = record { height = omega (arith, g, w.within.height); size = omega (arith, list_large ds t, w.within.size) };
    }

first_part : (n : ℕ) (d : Datum) (ds : Datums) → Parts n (more d ds) → Small n d
first_part n d ds w =
    record { low = omega (arith, w.low); within = record { height = omega (arith, w.high); size = omega (arith, w.large) } }

other_parts : (n : ℕ) (d : Datum) (ds : Datums) → Parts n (more d ds) → Parts n ds
other_parts n d ds w = record { low = omega (arith, w.low); high = omega (arith, w.high); large = omega (arith, w.large) }

-- small terms are read whole
abbrev WholeTerm : ℕ → Read Datum → Type 0
WholeTerm n part = (ts : List Tok) (d : Datum) → ReadsTerm ts d → Small n d → (rest : List Tok) → begins_text rest ≡ false
    → part (ts ++ rest) ≡ Some (d, rest)

-- terms with commas between them
abbrev Low : ℕ → List Tok → Datum → Type 0
Low n ts d = ReadsTerm ts d × Small n d

terms_listed : (n : ℕ) {ts : List Tok} {ds : Datums} → ReadsTerms ts ds → Parts n ds → Listed (Low n) more none mark.Comma ts ds
terms_listed n (one_term {ts} {d} r) w = last_listed ts d (r, first_part n d none w)
terms_listed n (more_terms {ts} {us} {d} {ds} s r rs) w = next_listed s ts us d ds (r, first_part n d ds w) (terms_listed n rs (other_parts n d ds w))

terms_whole : (n : ℕ) (part : Read Datum) → WholeTerm n part → {ts : List Tok} {ds : Datums} → ReadsTerms ts ds → Parts n ds
    → (rest : List Tok) → begins_text rest ≡ false → behind mark.Comma rest ≡ None → read_terms part (ts ++ rest) ≡ Some (ds, rest)
terms_whole n part whole {ts} {ds} r h rest calm e =
    listed_whole (Low n) (λ v. begins_text v ≡ false) more none mark.Comma part (λ us d l. pat_length (term_pat l.0).1)
    (λ us d l. whole us d l.0 l.1) (λ s us. refl) ts ds (terms_listed n r h) rest calm e

-- tuples
tuple_whole : (n : ℕ) (part : Read Datum) → WholeTerm n part → (c : Place) {ts : List Tok} {ds : Datums} → ReadsTermsOrNone ts ds → Parts n ds
    → (rest : List Tok) → read_tuple part ((ts ++ word c mark.BraceClose ∷ []) ++ rest) ≡ Some (tuple ds, rest)
tuple_whole n part whole c no_terms h rest = refl
tuple_whole n part whole c (some_terms {ts} {ds} r) h rest =
    ap (read_tuple part) (reclosed ts rest (word c mark.BraceClose))
    ∙ (ap (λ o. fork o (λ us. Some (tuple none, us)) (λ us. made tuple (closed mark.BraceClose (read_terms part us))) (ts ++ closing))
    (pats_begin (terms_pats r).1 mark.BraceClose (record { minus = refl; brace = refl; bracket = refl }) closing)
    ∙ ap (λ v. made tuple (closed mark.BraceClose v)) (terms_whole n part whole r h closing refl refl))
  where
    closing : List Tok
    closing = word c mark.BraceClose ∷ rest

-- lists
list_whole : (n : ℕ) (part : Read Datum) → WholeTerm n part → (c : Place) {ts : List Tok} {ds : Datums} → ReadsTermsOrNone ts ds
    → Small (suc n) (list_term ds nil) → (rest : List Tok)
    → read_list_term part ((ts ++ word c mark.BracketClose ∷ []) ++ rest) ≡ Some (list_term ds nil, rest)
list_whole n part whole c no_terms h rest = refl
list_whole n part whole c (some_terms {ts} {ds} r) h rest =
    ap (read_list_term part) (reclosed ts rest (word c mark.BracketClose))
    ∙ (ap (λ o. fork o (λ us. Some (nil, us)) (λ us. onward (read_terms part us) (read_end part)) (ts ++ closing))
    (pats_begin (terms_pats r).1 mark.BracketClose (record { minus = refl; brace = refl; bracket = refl }) closing)
    ∙ ap (λ o. onward o (read_end part))
    (terms_whole n part whole r (list_parts n r nil h) closing refl refl))
  where
    closing : List Tok
    closing = word c mark.BracketClose ∷ rest

tail_whole : (n : ℕ) (part : Read Datum) → WholeTerm n part → (b c : Place) {ts us : List Tok} {ds : Datums} {t : Datum}
    → ReadsTerms ts ds → ReadsTerm us t → Small (suc n) (list_term ds t) → (rest : List Tok)
    → read_list_term part ((ts ++ word b mark.Bar ∷ (us ++ word c mark.BracketClose ∷ [])) ++ rest) ≡ Some (list_term ds t, rest)
tail_whole n part whole b c {ts} {us} {ds} {t} r q h rest =
    ap (read_list_term part)
    (append_assoc ts (word b mark.Bar ∷ (us ++ word c mark.BracketClose ∷ [])) rest
    ∙ ap (λ v. ts ++ word b mark.Bar ∷ v) (reclosed us rest (word c mark.BracketClose)))
    ∙ (ap (λ o. fork o (λ vs. Some (nil, vs)) (λ vs. onward (read_terms part vs) (read_end part)) (ts ++ bar))
    (pats_begin (terms_pats r).1 mark.BracketClose (record { minus = refl; brace = refl; bracket = refl }) bar)
    ∙ (ap (λ o. onward o (read_end part)) (terms_whole n part whole r (list_parts n r t h) bar refl refl)
    ∙ ap (λ o. made (with_tail ds) (closed mark.BracketClose o))
    (whole us t q (list_tail n r t h) closing refl)))
  where
    closing : List Tok
    closing = word c mark.BracketClose ∷ rest

    bar : List Tok
    bar = word b mark.Bar ∷ (us ++ closing)

-- what is within the limits is kept
kept_whole : (o : Option (Datum × List Tok)) (d : Datum) (rest : List Tok) → IsWithin d → o ≡ Some (d, rest) → kept o ≡ Some (d, rest)
kept_whole o d rest w e =
    ap kept e ∙ (λ i. if le_is (height d) most_high w.height i && le_is (size d) most_large w.size i then Some (d, rest) else None)

at_whole : (n : ℕ) (part : Read Datum) → WholeTerm n part → {ts : List Tok} {d : Datum} → ReadsTerm ts d → Small (suc n) d
    → (rest : List Tok) → begins_text rest ≡ false → term_at part (ts ++ rest) ≡ Some (d, rest)
at_whole n part whole (t_integer {s} {n = j} small) h rest e = ap (λ b. provided b (λ us. Some (int (pos j), us)) rest) (le_is j most_integer small)
at_whole n part whole (t_negative {s} {t} {n = j} small) h rest e = ap (λ b. provided b (λ us. Some (int (neg_ℤ (pos j)), us)) rest) (le_is j most_integer small)
at_whole n part whole t_character h rest e = refl
at_whole n part whole t_atom h rest e = refl
at_whole n part whole (t_string {ts} {cs} r) h rest e =
    let t = string_whole r rest e in
    ap (λ v. term_at part (v ++ rest)) t.parted
    ∙ kept_whole (Some (text_term (t.first ++ more_text (t.others ++ rest)), behind_text (t.others ++ rest))) (text_term cs) rest h.within
    (λ i. Some (text_term (t.text i), t.behind i))
at_whole n part whole (t_tuple {ts} {ds} o c r) h rest e =
    let parts : Parts n ds = record { low = omega (arith, h.low); high = omega (arith, h.within.height); large = omega (arith, h.within.size) } in
    kept_whole (read_tuple part ((ts ++ word c mark.BraceClose ∷ []) ++ rest)) (tuple ds) rest h.within (tuple_whole n part whole c r parts rest)
at_whole n part whole (t_list {ts} {ds} o c r) h rest e =
    kept_whole (read_list_term part ((ts ++ word c mark.BracketClose ∷ []) ++ rest)) (list_term ds nil) rest h.within (list_whole n part whole c r h rest)
at_whole n part whole (t_list_with_tail {ts} {us} {ds} {t} o b c r q) h rest e =
    kept_whole (read_list_term part ((ts ++ word b mark.Bar ∷ (us ++ word c mark.BracketClose ∷ [])) ++ rest)) (list_term ds t) rest h.within
    (tail_whole n part whole b c r q h rest)

term_complete : (n : ℕ) → WholeTerm n (read_term n)
term_complete zero ts d r h rest e = absurd (let l = h.low in omega (arith, l))
term_complete (suc n) ts d r h rest e = at_whole n (read_term n) (term_complete n) r h rest e

-- a literal that is read is one by the grammar, and within the limits
pub literal_sound : (tokens : List Placed) (t : Datum) → read_literal (places 0 tokens) ≡ Some t → IsLiteral tokens t
literal_sound tokens t h = by (read_term deepest_term (places 0 tokens)) refl h
  where
    by : (o : Option (Datum × List Tok)) → read_term deepest_term (places 0 tokens) ≡ o → literal_of o ≡ Some t → IsLiteral tokens t
    by None e k = absurd (none_no t k)
    by (Some (d, u ∷ us)) e k = absurd (none_no t k)
    by (Some (d, [])) e k =
        let g = term_sound deepest_term (places 0 tokens) (d, []) e in
        subst (IsLiteral tokens) (some_is d t k)
        (record {
          reads = subst (λ v. ReadsTerm v d) (sym (g.parted ∙ append-nil g.used)) g.reads;
          within = term_within deepest_term (places 0 tokens) (d, []) e;
        })

-- each literal is read
pub literal_complete : (tokens : List Placed) (t : Datum) → IsLiteral tokens t → read_literal (places 0 tokens) ≡ Some t
literal_complete tokens t r =
    ap literal_of
    (ap (read_term deepest_term) (sym (append-nil (places 0 tokens)))
    ∙ term_complete deepest_term (places 0 tokens) t r.reads (record { low = (let h = r.within.height in omega (arith, h)); within = r.within }) [] refl)

-- tokens are one literal at most
pub one_literal : (tokens : List Placed) (t u : Datum) → IsLiteral tokens t → IsLiteral tokens u → t ≡ u
one_literal tokens t u r s = some_is t u (sym (literal_complete tokens t r) ∙ literal_complete tokens u s)
