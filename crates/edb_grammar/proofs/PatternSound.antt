-- Each pattern that is read from the front of the tokens is one by the grammar.

use Rattle.std.proofs.Common.{◌≡◌, ℕ, zero, suc, pos, neg_ℤ, Bool, true, false, if◌then◌else◌, nat_le, List, [], ◌∷◌, ◌++◌, length, Option, Some, None, refl, sym, ◌∙◌, ap, subst, append_assoc, append-nil, codes}
use Rattle.std.proofs.lemmas.Bool.{false≢true, eqb-true}
use Rattle.edb_scan.specs.declared.lexeme.Mark.{Mark}
use Rattle.edb_scan.specs.declared.lexeme.Mark.TheVariants as mark
use Rattle.edb_scan.specs.declared.lexeme.Token.TheVariants as token
use Rattle.edb_scan.specs.declared.lexeme.Token.TheVariants.{Int, Char, Atom, Var, Str}
use Rattle.edb_syntax.specs.Patterns.{Pat, Pats, int, atom, string, tuple, list, list_with_tail, both, none, more, pattern_line}
use Rattle.edb_syntax.specs.Depths.{pattern_depth}
use Rattle.edb_grammar.specs.Toks.{Place, Tok, tok, word, line_at, most_integer}
use Rattle.edb_grammar.specs.Strings.{ReadsString, last_string, next_string}
use Rattle.edb_grammar.specs.Patterns.{ReadsVariable, a_variable, anything, ReadsPat, ReadsPats, p_variable, p_integer, p_negative, p_character, p_atom, p_string, p_tuple, p_list, p_list_with_tail, p_both, one_pattern, more_patterns, no_patterns, some_patterns}
use Rattle.edb_grammar.specs.Reading.{Read, behind, closed, more_text, behind_text, is_blank}
use Rattle.edb_grammar.specs.PatternReading.{variable_pattern, read_pats, negative_at, tuple_of, tuple_at, tail_of, tail_at, end_at, elements_at, list_at, marked_pat, single_pat, both_of, both_at, joined_pats, read_pat, read_single}
use Rattle.edb_grammar.proofs.Parts.{Got, Sound, none_no, answered, behind_some, closed_some, enclosed, items_sound}
use Rattle.edb_grammar.proofs.ClimbSound.{provided_some, le_of}

-- a pattern, with `=` at its top or without
abbrev pub AnyPat : List Tok → Pat → Type 0
AnyPat ts p = (k : ℕ) × ReadsPat k ts p

-- variables
blank_is : (x : List ℕ) → is_blank x ≡ true → x ≡ codes "_"
blank_is (c ∷ []) h = λ i. eqb-true c 95 h i ∷ []
blank_is _ h = absurd (false≢true h)

pub variable_is : (s : Place) (x : List ℕ) → ReadsVariable (tok s (Var x)) (variable_pattern s.line x)
variable_is s x = by (is_blank x) refl
  where
    by : (b : Bool) → is_blank x ≡ b → ReadsVariable (tok s (Var x)) (variable_pattern s.line x)
    by true e = subst (λ y. ReadsVariable (tok s (Var y)) (variable_pattern s.line y)) (sym (blank_is x e)) anything
    by false e = rw e (a_variable (λ h. false≢true (sym e ∙ ap is_blank h)))

variable_reads : (s : Place) (x : List ℕ) → ReadsPat 0 (tok s (Var x) ∷ []) (variable_pattern s.line x)
variable_reads s x = p_variable (variable_is s x)

-- strings
pub string_reads : (s : Place) (cs : List ℕ) (ts : List Tok)
    → (used : List Tok) × ReadsString (tok s (Str cs) ∷ used) (cs ++ more_text ts) × (ts ≡ used ++ behind_text ts)
string_reads s cs (tok t (Str ds) ∷ ts) =
    let r = string_reads t ds ts in
    (tok t (Str ds) ∷ r.0, next_string s cs r.1, ap (λ v. tok t (Str ds) ∷ v) r.2)
string_reads s cs _ = ([], subst (λ v. ReadsString (tok s (Str cs) ∷ []) v) (sym (append-nil cs)) last_string, refl)

pub string_first : {ts : List Tok} {cs : List ℕ} → ReadsString ts cs → (rest : List Tok) → line_at (ts ++ rest) ≡ line_at ts
string_first last_string rest = refl
string_first (next_string s cs r) rest = refl

token_first : (t : Tok) (rest : List Tok) → line_at (t ∷ rest) ≡ line_at (t ∷ [])
token_first (tok s x) rest = refl

-- the line of a pattern is that of its first token
pub pat_first : {k : ℕ} {ts : List Tok} {p : Pat} → ReadsPat k ts p → (rest : List Tok) → line_at (ts ++ rest) ≡ line_at ts
pat_first (p_variable {t} r) rest = token_first t rest
pat_first (p_integer small) rest = refl
pat_first (p_negative small) rest = refl
pat_first p_character rest = refl
pat_first p_atom rest = refl
pat_first (p_string r) rest = string_first r rest
pat_first (p_tuple o c r) rest = refl
pat_first (p_list o c r) rest = refl
pat_first (p_list_with_tail o b c r t) rest = refl
pat_first (p_both {ts} {us} s r t) rest =
    ap line_at (append_assoc ts (word s mark.Match ∷ us) rest)
    ∙ (pat_first r ((word s mark.Match ∷ us) ++ rest) ∙ sym (pat_first r (word s mark.Match ∷ us)))

variable_line : {t : Tok} {p : Pat} → ReadsVariable t p → pattern_line p ≡ line_at (t ∷ [])
variable_line (a_variable h) = refl
variable_line anything = refl

pub pat_line : {k : ℕ} {ts : List Tok} {p : Pat} → ReadsPat k ts p → pattern_line p ≡ line_at ts
pat_line (p_variable r) = variable_line r
pat_line (p_integer small) = refl
pat_line (p_negative small) = refl
pat_line p_character = refl
pat_line p_atom = refl
pat_line (p_string r) = refl
pat_line (p_tuple o c r) = refl
pat_line (p_list o c r) = refl
pat_line (p_list_with_tail o b c r t) = refl
pat_line (p_both {us} s r t) = sym (pat_first r (word s mark.Match ∷ us))

-- `-` and an integer
negative_sound : (s : Place) (ts : List Tok) (q : Pat × List Tok) → negative_at s ts ≡ Some q → Got (ReadsPat 0) (word s mark.Minus ∷ ts) q
negative_sound s (tok t (Int n) ∷ ts) q h =
    let small = provided_some (nat_le n most_integer) (λ us. Some (int s.line (neg_ℤ (pos n)), us)) ts q h in
    answered (ReadsPat 0) (word s mark.Minus ∷ tok t (Int n) ∷ ts) (word s mark.Minus ∷ tok t (Int n) ∷ []) ts
    (int s.line (neg_ℤ (pos n))) q small.1 (p_negative (le_of n most_integer small.0)) refl
negative_sound s _ q h = absurd (none_no q h)

pub pats_sound : (part : Read Pat) → Sound AnyPat part → Sound ReadsPats (read_pats part)
pats_sound part sound ts =
    items_sound AnyPat ReadsPats more none mark.Comma (λ us p r. one_pattern r.1) (λ s us vs p ps r rs. more_patterns s r.1 rs)
    part sound (length ts) ts

-- tuples
tuple_sound : (part : Read Pat) → Sound AnyPat part → (s : Place) (ts : List Tok) (o : Option (List Tok)) → behind mark.BraceClose ts ≡ o
    → (q : Pat × List Tok) → tuple_at part s ts o ≡ Some q → Got (ReadsPat 0) (word s mark.BraceOpen ∷ ts) q
tuple_sound part sound s ts (Some us) e q h =
    let b = behind_some mark.BraceClose ts us e in
    answered (ReadsPat 0) (word s mark.BraceOpen ∷ ts) (word s mark.BraceOpen ∷ word b.0 mark.BraceClose ∷ []) us
    (tuple s.line none) q h (p_tuple s b.0 no_patterns) (ap (λ v. word s mark.BraceOpen ∷ v) b.1)
tuple_sound part sound s ts None e q h = by (closed mark.BraceClose (read_pats part ts)) refl h
  where
    by : (o : Option (Pats × List Tok)) → closed mark.BraceClose (read_pats part ts) ≡ o → tuple_of s o ≡ Some q
        → Got (ReadsPat 0) (word s mark.BraceOpen ∷ ts) q
    by None f k = absurd (none_no q k)
    by (Some p) f k =
        let c = closed_some mark.BraceClose (read_pats part ts) p f in
        let g = pats_sound part sound ts (p.0, word c.0 mark.BraceClose ∷ p.1) c.1 in
        answered (ReadsPat 0) (word s mark.BraceOpen ∷ ts) (word s mark.BraceOpen ∷ (g.used ++ word c.0 mark.BraceClose ∷ [])) p.1
        (tuple s.line p.0) q k (p_tuple s c.0 (some_patterns g.reads))
        (ap (λ v. word s mark.BraceOpen ∷ v) (enclosed ts g.used p.1 (word c.0 mark.BraceClose) g.parted))

-- lists
tail_sound : (part : Read Pat) → Sound AnyPat part → (s : Place) (ts used rest : List Tok) (ps : Pats) → ReadsPats used ps → ts ≡ used ++ rest
    → (o : Option (List Tok)) → behind mark.Bar rest ≡ o
    → (q : Pat × List Tok) → tail_at part s ps o ≡ Some q → Got (ReadsPat 0) (word s mark.BracketOpen ∷ ts) q
tail_sound part sound s ts used rest ps r parted None e q h = absurd (none_no q h)
tail_sound part sound s ts used rest ps r parted (Some us) e q h = by (closed mark.BracketClose (part us)) refl h
  where
    by : (o : Option (Pat × List Tok)) → closed mark.BracketClose (part us) ≡ o → tail_of s ps o ≡ Some q
        → Got (ReadsPat 0) (word s mark.BracketOpen ∷ ts) q
    by None f k = absurd (none_no q k)
    by (Some p) f k =
        let b = behind_some mark.Bar rest us e in
        let c = closed_some mark.BracketClose (part us) p f in
        let g = sound us (p.0, word c.0 mark.BracketClose ∷ p.1) c.1 in
        let close : Tok = word c.0 mark.BracketClose in
        let bar : Tok = word b.0 mark.Bar in
        answered (ReadsPat 0) (word s mark.BracketOpen ∷ ts) (word s mark.BracketOpen ∷ (used ++ bar ∷ (g.used ++ close ∷ []))) p.1
        (list_with_tail s.line ps p.0) q k (p_list_with_tail s b.0 c.0 r g.reads.1)
        (ap (λ v. word s mark.BracketOpen ∷ v)
        (parted ∙ (ap (λ v. used ++ v) b.1 ∙ (ap (λ v. used ++ bar ∷ v) (enclosed us g.used p.1 close g.parted)
        ∙ sym (append_assoc used (bar ∷ (g.used ++ close ∷ [])) p.1)))))

end_sound : (part : Read Pat) → Sound AnyPat part → (s : Place) (ts used rest : List Tok) (ps : Pats) → ReadsPats used ps → ts ≡ used ++ rest
    → (o : Option (List Tok)) → behind mark.BracketClose rest ≡ o
    → (q : Pat × List Tok) → end_at part s ps rest o ≡ Some q → Got (ReadsPat 0) (word s mark.BracketOpen ∷ ts) q
end_sound part sound s ts used rest ps r parted (Some us) e q h =
    let b = behind_some mark.BracketClose rest us e in
    answered (ReadsPat 0) (word s mark.BracketOpen ∷ ts) (word s mark.BracketOpen ∷ (used ++ word b.0 mark.BracketClose ∷ [])) us
    (list s.line ps) q h (p_list s b.0 (some_patterns r))
    (ap (λ v. word s mark.BracketOpen ∷ v) (enclosed ts used us (word b.0 mark.BracketClose) (parted ∙ ap (λ v. used ++ v) b.1)))
end_sound part sound s ts used rest ps r parted None e q h =
    tail_sound part sound s ts used rest ps r parted (behind mark.Bar rest) refl q h

list_sound : (part : Read Pat) → Sound AnyPat part → (s : Place) (ts : List Tok) (o : Option (List Tok)) → behind mark.BracketClose ts ≡ o
    → (q : Pat × List Tok) → list_at part s ts o ≡ Some q → Got (ReadsPat 0) (word s mark.BracketOpen ∷ ts) q
list_sound part sound s ts (Some us) e q h =
    let b = behind_some mark.BracketClose ts us e in
    answered (ReadsPat 0) (word s mark.BracketOpen ∷ ts) (word s mark.BracketOpen ∷ word b.0 mark.BracketClose ∷ []) us
    (list s.line none) q h (p_list s b.0 no_patterns) (ap (λ v. word s mark.BracketOpen ∷ v) b.1)
list_sound part sound s ts None e q h = by (read_pats part ts) refl h
  where
    by : (o : Option (Pats × List Tok)) → read_pats part ts ≡ o → elements_at part s o ≡ Some q
        → Got (ReadsPat 0) (word s mark.BracketOpen ∷ ts) q
    by None f k = absurd (none_no q k)
    by (Some p) f k =
        let g = pats_sound part sound ts p f in
        end_sound part sound s ts g.used p.1 p.0 g.reads g.parted (behind mark.BracketClose p.1) refl q k

marked_sound : (part : Read Pat) → Sound AnyPat part → (s : Place) (x : Mark) (ts : List Tok) (q : Pat × List Tok)
    → marked_pat part s x ts ≡ Some q → Got (ReadsPat 0) (word s x ∷ ts) q
marked_sound part sound s mark.Minus ts q h = negative_sound s ts q h
marked_sound part sound s mark.BraceOpen ts q h = tuple_sound part sound s ts (behind mark.BraceClose ts) refl q h
marked_sound part sound s mark.BracketOpen ts q h = list_sound part sound s ts (behind mark.BracketClose ts) refl q h
marked_sound part sound s _ ts q h = absurd (none_no q h)

-- a pattern without `=` at its top
single_sound : (part : Read Pat) → Sound AnyPat part → Sound (ReadsPat 0) (single_pat part)
single_sound part sound (tok s (Var x) ∷ ts) q h =
    answered (ReadsPat 0) (tok s (Var x) ∷ ts) (tok s (Var x) ∷ []) ts (variable_pattern s.line x) q h (variable_reads s x) refl
single_sound part sound (tok s (Int n) ∷ ts) q h =
    let small = provided_some (nat_le n most_integer) (λ us. Some (int s.line (pos n), us)) ts q h in
    answered (ReadsPat 0) (tok s (Int n) ∷ ts) (tok s (Int n) ∷ []) ts (int s.line (pos n)) q small.1 (p_integer (le_of n most_integer small.0)) refl
single_sound part sound (tok s (Char c) ∷ ts) q h =
    answered (ReadsPat 0) (tok s (Char c) ∷ ts) (tok s (Char c) ∷ []) ts (int s.line (pos c)) q h p_character refl
single_sound part sound (tok s (Atom a) ∷ ts) q h =
    answered (ReadsPat 0) (tok s (Atom a) ∷ ts) (tok s (Atom a) ∷ []) ts (atom s.line a) q h p_atom refl
single_sound part sound (tok s (Str cs) ∷ ts) q h =
    let r = string_reads s cs ts in
    answered (ReadsPat 0) (tok s (Str cs) ∷ ts) (tok s (Str cs) ∷ r.0) (behind_text ts) (string s.line (cs ++ more_text ts)) q h
    (p_string r.1) (ap (λ v. tok s (Str cs) ∷ v) r.2)
single_sound part sound (tok s (token.Mark x) ∷ ts) q h = marked_sound part sound s x ts q h
single_sound part sound _ q h = absurd (none_no q h)

-- patterns joined by `=`
both_sound : (n : ℕ) (part : Read Pat) → Sound AnyPat part → (used rest : List Tok) (p : Pat) → ReadsPat 0 used p
    → (o : Option (List Tok)) → behind mark.Match rest ≡ o
    → (q : Pat × List Tok) → both_at n part p rest o ≡ Some q → Got AnyPat (used ++ rest) q
both_sound n part sound used rest p r None e q h = answered AnyPat (used ++ rest) used rest p q h (0, r) refl
both_sound n part sound used rest p r (Some us) e q h = by (nat_le (pattern_depth p) n) (part us) refl h
  where
    by : (b : Bool) (o : Option (Pat × List Tok)) → part us ≡ o → (if b then both_of p o else None) ≡ Some q → Got AnyPat (used ++ rest) q
    by false o f k = absurd (none_no q k)
    by true None f k = absurd (none_no q k)
    by true (Some t) f k =
        let b = behind_some mark.Match rest us e in
        let g = sound us t f in
        let equals : Tok = word b.0 mark.Match in
        answered AnyPat (used ++ rest) (used ++ equals ∷ g.used) t.1 (both (pattern_line p) p t.0) q k
        (1, subst (λ l. ReadsPat 1 (used ++ equals ∷ g.used) (both l p t.0)) (sym (pat_line r)) (p_both b.0 r g.reads.1))
        (ap (λ v. used ++ v) (b.1 ∙ ap (λ v. equals ∷ v) g.parted) ∙ sym (append_assoc used (equals ∷ g.used) t.1))

joined_sound : (n : ℕ) (part : Read Pat) → Sound AnyPat part → (ts : List Tok) (o : Option (Pat × List Tok))
    → ((p : Pat × List Tok) → o ≡ Some p → Got (ReadsPat 0) ts p)
    → (q : Pat × List Tok) → joined_pats n part o ≡ Some q → Got AnyPat ts q
joined_sound n part sound ts None got q h = absurd (none_no q h)
joined_sound n part sound ts (Some p) got q h =
    let g = got p refl in
    subst (λ v. Got AnyPat v q) (sym g.parted) (both_sound n part sound g.used p.1 p.0 g.reads (behind mark.Match p.1) refl q h)

pub pat_sound : (n : ℕ) → Sound AnyPat (read_pat n)
pat_sound zero ts q h = absurd (none_no q h)
pat_sound (suc n) ts q h =
    joined_sound n (read_pat n) (pat_sound n) ts (single_pat (read_pat n) ts) (single_sound (read_pat n) (pat_sound n) ts) q h

pub single_pat_sound : (n : ℕ) → Sound (ReadsPat 0) (read_single n)
single_pat_sound zero ts q h = absurd (none_no q h)
single_pat_sound (suc n) ts q h = single_sound (read_pat n) (pat_sound n) ts q h
