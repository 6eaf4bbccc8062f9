-- Each literal term that is read is one by the grammar, and within the limits.

use Rattle.std.proofs.Common.{◌≡◌, nat_le, ℕ, zero, suc, pos, neg_ℤ, Bool, true, false, if◌then◌else◌, List, [], ◌∷◌, ◌++◌, length, Option, Some, None, refl, ◌∙◌, ap, subst, arith}
use Rattle.edb_scan.specs.declared.lexeme.Mark.{Mark}
use Rattle.edb_scan.specs.declared.lexeme.Mark.TheVariants as mark
use Rattle.edb_scan.specs.declared.lexeme.Token.TheVariants as token
use Rattle.edb_scan.specs.declared.lexeme.Token.TheVariants.{Int, Char, Atom, Str}
use Rattle.edb_lang.specs.Terms.{Datum, int, atom, tuple, nil, Datums, none, more, height, size, most_high, most_large, is_within, IsWithin}
use Rattle.edb_grammar.specs.Toks.{Place, Tok, tok, word, most_integer}
use Rattle.edb_grammar.specs.Literals.{text_term, list_term, ReadsTerm, ReadsTerms, t_integer, t_negative, t_character, t_atom, t_string, t_tuple, t_list, t_list_with_tail, one_term, more_terms, no_terms, some_terms}
use Rattle.edb_grammar.specs.Reading.{Read, behind, closed, made, onward, fork, refuse, more_text, behind_text}
use Rattle.edb_grammar.specs.LiteralReading.{read_terms, read_negative, read_tuple, with_tail, read_end, read_list_term, kept, marked_term, term_at, read_term}
use Rattle.edb_grammar.proofs.Parts.{Got, Sound, some_is, none_no, answered, enclosed, items_sound}
use Rattle.edb_grammar.proofs.PatternSound.{string_reads}
use Rattle.edb_grammar.proofs.ClimbSound.{onward_some, provided_some, both_true, le_of}
use Rattle.edb_grammar.proofs.ClauseSound.{extend, closed_sound, made_some, fork_sound}

-- what was kept had been read, and is within the limits
kept_some : (o : Option (Datum × List Tok)) (q : Datum × List Tok) → kept o ≡ Some q → (o ≡ Some q) × IsWithin q.0
kept_some None q h = absurd (none_no q h)
kept_some (Some p) q h = by (is_within p.0) refl h
  where
    by : (b : Bool) → is_within p.0 ≡ b → (if b then Some p else None) ≡ Some q → (Some p ≡ Some q) × IsWithin q.0
    by false e k = absurd (none_no q k)
    by true e k =
        let w = both_true (nat_le (height p.0) most_high) (nat_le (size p.0) most_large) e in
        (k, subst (λ c. IsWithin c.0) (some_is p q k) (record { height = le_of (height p.0) most_high w.0; size = le_of (size p.0) most_large w.1 }))

negative_sound : (s : Place) (ts : List Tok) (q : Datum × List Tok) → read_negative ts ≡ Some q → Got ReadsTerm (word s mark.Minus ∷ ts) q
negative_sound s (tok t (Int n) ∷ ts) q h =
    let small = provided_some (nat_le n most_integer) (λ us. Some (int (neg_ℤ (pos n)), us)) ts q h in
    answered ReadsTerm (word s mark.Minus ∷ tok t (Int n) ∷ ts) (word s mark.Minus ∷ tok t (Int n) ∷ []) ts (int (neg_ℤ (pos n))) q
    small.1 (t_negative (le_of n most_integer small.0)) refl
negative_sound s _ q h = absurd (none_no q h)

terms_sound : (part : Read Datum) → Sound ReadsTerm part → Sound ReadsTerms (read_terms part)
terms_sound part sound ts =
    items_sound ReadsTerm ReadsTerms more none mark.Comma (λ us d r. one_term r) (λ s us vs d ds r rs. more_terms s r rs) part sound (length ts) ts

tuple_sound : (part : Read Datum) → Sound ReadsTerm part → (s : Place) (ts : List Tok) (q : Datum × List Tok)
    → read_tuple part ts ≡ Some q → Got ReadsTerm (word s mark.BraceOpen ∷ ts) q
tuple_sound part sound s ts q h =
    fork_sound (Got ReadsTerm (begins ∷ ts)) mark.BraceClose (λ us. Some (tuple none, us)) (λ us. made tuple (closed mark.BraceClose (read_terms part us))) ts q
    (λ c us f k. answered ReadsTerm (begins ∷ ts) (begins ∷ word c mark.BraceClose ∷ []) us (tuple none) q k (t_tuple s c no_terms) (ap (λ v. begins ∷ v) f))
    (λ k.
    let d = made_some tuple (closed mark.BraceClose (read_terms part ts)) q k in
    let c = closed_sound ReadsTerms mark.BraceClose (read_terms part) (terms_sound part sound) ts d.0 d.1 in
    answered ReadsTerm (begins ∷ ts) (begins ∷ (c.used ++ word c.place mark.BraceClose ∷ [])) d.0.1 (tuple d.0.0) q d.2
    (t_tuple s c.place (some_terms c.reads)) (ap (λ v. begins ∷ v) (enclosed ts c.used d.0.1 (word c.place mark.BraceClose) c.parted)))
    h
  where
    begins : Tok
    begins = word s mark.BraceOpen

list_sound : (part : Read Datum) → Sound ReadsTerm part → (s : Place) (ts : List Tok) (q : Datum × List Tok)
    → read_list_term part ts ≡ Some q → Got ReadsTerm (word s mark.BracketOpen ∷ ts) q
list_sound part sound s ts q h =
    fork_sound (Got ReadsTerm (begins ∷ ts)) mark.BracketClose (λ us. Some (nil, us)) (λ us. onward (read_terms part us) (read_end part)) ts q
    (λ c us f k. answered ReadsTerm (begins ∷ ts) (begins ∷ word c mark.BracketClose ∷ []) us nil q k (t_list s c no_terms) (ap (λ v. begins ∷ v) f))
    (λ k.
    let o = onward_some (read_terms part ts) (read_end part) q k in
    let g = terms_sound part sound ts o.0 o.1 in
    fork_sound (Got ReadsTerm (begins ∷ ts)) mark.BracketClose (λ us. Some (list_term o.0.0 nil, us)) (tailed o.0.0) o.0.1 q
    (λ c us f l. answered ReadsTerm (begins ∷ ts) (begins ∷ (g.used ++ word c mark.BracketClose ∷ [])) us (list_term o.0.0 nil) q l
    (t_list s c (some_terms g.reads))
    (ap (λ v. begins ∷ v) (enclosed ts g.used us (word c mark.BracketClose) (g.parted ∙ ap (λ v. g.used ++ v) f))))
    (λ l. fork_sound (Got ReadsTerm (begins ∷ ts)) mark.Bar (tail_of o.0.0) refuse o.0.1 q
    (λ b us f p.
    let d = made_some (with_tail o.0.0) (closed mark.BracketClose (part us)) q p in
    let c = closed_sound ReadsTerm mark.BracketClose part sound us d.0 d.1 in
    let bar : Tok = word b mark.Bar in
    let close : Tok = word c.place mark.BracketClose in
    answered ReadsTerm (begins ∷ ts) (begins ∷ (g.used ++ bar ∷ (c.used ++ close ∷ []))) d.0.1 (list_term o.0.0 d.0.0) q d.2
    (t_list_with_tail s b c.place g.reads c.reads)
    (ap (λ v. begins ∷ v) (extend ts g.used o.0.1 (bar ∷ (c.used ++ close ∷ [])) d.0.1 g.parted
    (f ∙ ap (λ v. bar ∷ v) (enclosed us c.used d.0.1 close c.parted)))))
    (λ p. absurd (none_no q p))
    l)
    o.2)
    h
  where
    begins : Tok
    begins = word s mark.BracketOpen

    tail_of : Datums → Read Datum
    tail_of ds vs = made (with_tail ds) (closed mark.BracketClose (part vs))

    tailed : Datums → Read Datum
    tailed ds us = fork (behind mark.Bar us) (tail_of ds) refuse us

marked_sound : (part : Read Datum) → Sound ReadsTerm part → (s : Place) (x : Mark) (ts : List Tok) (q : Datum × List Tok)
    → marked_term part x ts ≡ Some q → Got ReadsTerm (word s x ∷ ts) q
marked_sound part sound s mark.Minus ts q h = negative_sound s ts q h
marked_sound part sound s mark.BraceOpen ts q h = tuple_sound part sound s ts q (kept_some (read_tuple part ts) q h).0
marked_sound part sound s mark.BracketOpen ts q h = list_sound part sound s ts q (kept_some (read_list_term part ts) q h).0
marked_sound part sound s _ ts q h = absurd (none_no q h)

at_sound : (part : Read Datum) → Sound ReadsTerm part → Sound ReadsTerm (term_at part)
at_sound part sound (tok s (Int n) ∷ ts) q h =
    let small = provided_some (nat_le n most_integer) (λ us. Some (int (pos n), us)) ts q h in
    answered ReadsTerm (tok s (Int n) ∷ ts) (tok s (Int n) ∷ []) ts (int (pos n)) q small.1 (t_integer (le_of n most_integer small.0)) refl
at_sound part sound (tok s (Char c) ∷ ts) q h =
    answered ReadsTerm (tok s (Char c) ∷ ts) (tok s (Char c) ∷ []) ts (int (pos c)) q h t_character refl
at_sound part sound (tok s (Atom a) ∷ ts) q h =
    answered ReadsTerm (tok s (Atom a) ∷ ts) (tok s (Atom a) ∷ []) ts (atom a) q h t_atom refl
at_sound part sound (tok s (Str cs) ∷ ts) q h =
    let r = string_reads s cs ts in
    answered ReadsTerm (tok s (Str cs) ∷ ts) (tok s (Str cs) ∷ r.0) (behind_text ts) (text_term (cs ++ more_text ts)) q
    (kept_some (Some (text_term (cs ++ more_text ts), behind_text ts)) q h).0 (t_string r.1) (ap (λ v. tok s (Str cs) ∷ v) r.2)
at_sound part sound (tok s (token.Mark x) ∷ ts) q h = marked_sound part sound s x ts q h
at_sound part sound _ q h = absurd (none_no q h)

pub term_sound : (n : ℕ) → Sound ReadsTerm (read_term n)
term_sound zero ts q h = absurd (none_no q h)
term_sound (suc n) ts q h = at_sound (read_term n) (term_sound n) ts q h

negative_within : (ts : List Tok) (q : Datum × List Tok) → read_negative ts ≡ Some q → IsWithin q.0
negative_within (tok t (Int n) ∷ ts) q h =
    let small = provided_some (nat_le n most_integer) (λ us. Some (int (neg_ℤ (pos n)), us)) ts q h in
    subst (λ c. IsWithin c.0) (some_is (int (neg_ℤ (pos n)), ts) q small.1) (record { height = omega arith; size = omega arith })
negative_within _ q h = absurd (none_no q h)

marked_within : (part : Read Datum) (x : Mark) (ts : List Tok) (q : Datum × List Tok) → marked_term part x ts ≡ Some q → IsWithin q.0
marked_within part mark.Minus ts q h = negative_within ts q h
marked_within part mark.BraceOpen ts q h = (kept_some (read_tuple part ts) q h).1
marked_within part mark.BracketOpen ts q h = (kept_some (read_list_term part ts) q h).1
marked_within part _ ts q h = absurd (none_no q h)

at_within : (part : Read Datum) (ts : List Tok) (q : Datum × List Tok) → term_at part ts ≡ Some q → IsWithin q.0
at_within part (tok s (Int n) ∷ ts) q h =
    let small = provided_some (nat_le n most_integer) (λ us. Some (int (pos n), us)) ts q h in
    subst (λ c. IsWithin c.0) (some_is (int (pos n), ts) q small.1) (record { height = omega arith; size = omega arith })
at_within part (tok s (Char c) ∷ ts) q h = subst (λ c. IsWithin c.0) (some_is (int (pos c), ts) q h) (record { height = omega arith; size = omega arith })
at_within part (tok s (Atom a) ∷ ts) q h = subst (λ c. IsWithin c.0) (some_is (atom a, ts) q h) (record { height = omega arith; size = omega arith })
at_within part (tok s (Str cs) ∷ ts) q h = (kept_some (Some (text_term (cs ++ more_text ts), behind_text ts)) q h).1
at_within part (tok s (token.Mark x) ∷ ts) q h = marked_within part x ts q h
at_within part _ q h = absurd (none_no q h)

-- each term that is read is within the limits
pub term_within : (n : ℕ) (ts : List Tok) (q : Datum × List Tok) → read_term n ts ≡ Some q → IsWithin q.0
term_within zero ts q h = absurd (none_no q h)
term_within (suc n) ts q h = at_within (read_term n) ts q h
