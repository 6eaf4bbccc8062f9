-- Each pattern by the grammar is read from the front of the tokens, where nothing behind it goes on with it.

use Rattle.std.proofs.Common.{◌≡◌, ◌≢◌, ℕ, zero, suc, pos, neg_ℤ, ◌==◌, ◌+◌, ◌≤◌, Bool, true, false, if◌then◌else◌, nat_le, List, [], ◌∷◌, ◌++◌, length, length-append, Some, None, refl, sym, ◌∙◌, ap, append_assoc, append-nil, arith, codes}
use Rattle.std.proofs.lemmas.Bool.{false≢true, eqb-true}
use Rattle.std.proofs.lemmas.Bool.Decides.{nat_tests}
use Rattle.edb_scan.specs.declared.lexeme.Mark.{Mark}
use Rattle.edb_scan.specs.declared.lexeme.Mark.TheVariants as mark
use Rattle.edb_scan.specs.declared.lexeme.Token.TheVariants.{Str, Var}
use Rattle.edb_syntax.specs.Patterns.{Pat, Pats, int, atom, string, variable, any, tuple, list, list_with_tail, both, none, more}
use Rattle.edb_syntax.specs.Depths.{pattern_depth, patterns_depth}
use Rattle.edb_grammar.specs.Toks.{Place, Tok, tok, word, line_at, most_integer}
use Rattle.edb_grammar.specs.Marks.{same_mark}
use Rattle.edb_grammar.specs.Strings.{ReadsString, last_string, next_string}
use Rattle.edb_grammar.specs.Patterns.{ReadsVariable, a_variable, anything, ReadsPat, ReadsPats, ReadsPatsOrNone, p_variable, p_integer, p_negative, p_character, p_atom, p_string, p_tuple, p_list, p_list_with_tail, p_both, one_pattern, more_patterns, no_patterns, some_patterns}
use Rattle.edb_grammar.specs.Reading.{Read, behind, closed, joined, last_or_more, after_item, items, provided, more_text, behind_text, is_blank}
use Rattle.edb_grammar.specs.PatternReading.{variable_pattern, read_pats, tuple_of, tuple_at, tail_of, elements_at, list_at, single_pat, both_of, both_at, joined_pats, read_pat, read_single}
use Rattle.edb_grammar.proofs.Parts.{some_is}
use Rattle.edb_grammar.proofs.PatternSound.{pat_line}
use Rattle.edb_grammar.proofs.Follow.{begins_text, CalmPat, WholePat}

pub le_is : (a b : ℕ) → a ≤ b → nat_le a b ≡ true
le_is a b h = grind (arith, nat_tests, h)

same_itself : (x : Mark) → same_mark x x ≡ true
same_itself x = grind (arith, nat_tests)

pub behind_here : (x : Mark) (s : Place) (ts : List Tok) → behind x (word s x ∷ ts) ≡ Some ts
behind_here x s ts = rw (same_itself x) refl

-- the last of items, and one that others stand behind
pub items_last : {A L : Type 0} (cons : A → L → L) (nil : L) (x : Mark) (read : Read A) (turns : ℕ) (ts rest : List Tok) (a : A)
    → read ts ≡ Some (a, rest) → behind x rest ≡ None → items cons nil x read (suc turns) ts ≡ Some (cons a nil, rest)
items_last cons nil x read turns ts rest a e f =
    ap (after_item cons nil (items cons nil x read turns) x) e ∙ ap (last_or_more cons nil (items cons nil x read turns) a rest) f

pub items_next : {A L : Type 0} (cons : A → L → L) (nil : L) (x : Mark) (read : Read A) (turns : ℕ) (ts us rest : List Tok) (s : Place) (a : A) (l : L)
    → read ts ≡ Some (a, word s x ∷ us) → items cons nil x read turns us ≡ Some (l, rest)
    → items cons nil x read (suc turns) ts ≡ Some (cons a l, rest)
items_next cons nil x read turns ts us rest s a l e f =
    ap (after_item cons nil (items cons nil x read turns) x) e
    ∙ (ap (last_or_more cons nil (items cons nil x read turns) a (word s x ∷ us)) (behind_here x s us) ∙ ap (joined cons a) f)

-- strings
text_end : (rest : List Tok) → begins_text rest ≡ false → (more_text rest ≡ []) × (behind_text rest ≡ rest)
text_end (tok s (Str cs) ∷ ts) h = absurd (false≢true (sym h))
text_end _ h = (refl, refl)

-- the tokens of a string begin with a string token; its text, and what is behind it
pub record Text (ts rest : List Tok) (cs : List ℕ) : Type 0 where
  pub place : Place
  pub first : List ℕ
  pub others : List Tok
  pub parted : ts ≡ tok place (Str first) ∷ others
  pub text : first ++ more_text (others ++ rest) ≡ cs
  pub behind : behind_text (others ++ rest) ≡ rest

pub string_whole : {ts : List Tok} {cs : List ℕ} → ReadsString ts cs → (rest : List Tok) → begins_text rest ≡ false → Text ts rest cs
string_whole (last_string {s} {cs}) rest h =
    let e = text_end rest h in
    record { place = s; first = cs; others = []; parted = refl; text = ap (λ v. cs ++ v) e.0 ∙ append-nil cs; behind = e.1 }
string_whole (next_string {ts} s cs r) rest h =
    let t = string_whole r rest h in
    record {
      place = s;
      first = cs;
      others = ts;
      parted = refl;
      text = ap (λ v. cs ++ v) (ap (λ v. more_text (v ++ rest)) t.parted ∙ t.text);
      behind = ap (λ v. behind_text (v ++ rest)) t.parted ∙ t.behind;
    }

-- variables
unblank : (x : List ℕ) → x ≢ codes "_" → is_blank x ≡ false
unblank [] h = refl
unblank (c ∷ d ∷ cs) h = refl
unblank (c ∷ []) h = by (c == 95) refl
  where
    by : (b : Bool) → c == 95 ≡ b → c == 95 ≡ false
    by false e = e
    by true e = absurd (h (λ i. eqb-true c 95 e i ∷ []))

pub variable_whole : {t : Tok} {p : Pat} → ReadsVariable t p → (s : Place) × (x : List ℕ) × (t ≡ tok s (Var x)) × (variable_pattern s.line x ≡ p)
variable_whole (a_variable {s} {x} h) = (s, x, refl, rw (unblank x h) refl)
variable_whole (anything {s}) = (s, codes "_", refl, refl)

-- a mark with which no pattern begins
pub record BeginsNoPat (x : Mark) : Type 0 where
  pub minus : same_mark x mark.Minus ≡ false
  pub brace : same_mark x mark.BraceOpen ≡ false
  pub bracket : same_mark x mark.BracketOpen ≡ false

no_mark : (x y : Mark) (s : Place) (ts : List Tok) → same_mark x y ≡ false → behind x (word s y ∷ ts) ≡ None
no_mark x y s ts e = rw e refl

pub pat_begins : {k : ℕ} {ts : List Tok} {p : Pat} → ReadsPat k ts p → (x : Mark) → BeginsNoPat x → (rest : List Tok) → behind x (ts ++ rest) ≡ None
pat_begins (p_variable (a_variable h)) x b rest = refl
pat_begins (p_variable anything) x b rest = refl
pat_begins (p_integer small) x b rest = refl
pat_begins (p_negative {s} small) x b rest = no_mark x mark.Minus s _ b.minus
pat_begins p_character x b rest = refl
pat_begins p_atom x b rest = refl
pat_begins (p_string last_string) x b rest = refl
pat_begins (p_string (next_string s cs r)) x b rest = refl
pat_begins (p_tuple o c r) x b rest = no_mark x mark.BraceOpen o _ b.brace
pat_begins (p_list o c r) x b rest = no_mark x mark.BracketOpen o _ b.bracket
pat_begins (p_list_with_tail o d c r t) x b rest = no_mark x mark.BracketOpen o _ b.bracket
pat_begins (p_both {ts} {us} s r t) x b rest =
    ap (behind x) (append_assoc ts (word s mark.Match ∷ us) rest) ∙ pat_begins r x b ((word s mark.Match ∷ us) ++ rest)

pub pats_begin : {ts : List Tok} {ps : Pats} → ReadsPats ts ps → (x : Mark) → BeginsNoPat x → (rest : List Tok) → behind x (ts ++ rest) ≡ None
pats_begin (one_pattern r) x b rest = pat_begins r x b rest
pats_begin (more_patterns {ts} {us} s r rs) x b rest =
    ap (behind x) (append_assoc ts (word s mark.Comma ∷ us) rest) ∙ pat_begins r x b ((word s mark.Comma ∷ us) ++ rest)

-- a pattern has a token
pub pat_length : {k : ℕ} {ts : List Tok} {p : Pat} → ReadsPat k ts p → 1 ≤ length ts
pat_length (p_variable r) = omega arith
pat_length (p_integer small) = omega arith
pat_length (p_negative small) = omega arith
pat_length p_character = omega arith
pat_length p_atom = omega arith
pat_length (p_string last_string) = omega arith
pat_length (p_string (next_string s cs r)) = omega arith
pat_length (p_tuple o c r) = omega arith
pat_length (p_list o c r) = omega arith
pat_length (p_list_with_tail o b c r t) = omega arith
pat_length (p_both {ts} {us} s r t) = rw (length-append ts (word s mark.Match ∷ us)) (omega arith)

-- patterns with commas between them
pats_turns : (n : ℕ) (part : Read Pat) → WholePat n part → {ts : List Tok} {ps : Pats} → ReadsPats ts ps → patterns_depth ps ≤ n
    → (turns : ℕ) → length ts ≤ turns → (rest : List Tok) → CalmPat rest → behind mark.Comma rest ≡ None
    → items more none mark.Comma part turns (ts ++ rest) ≡ Some (ps, rest)
pats_turns n part whole (one_pattern r) h zero l rest calm e = absurd (let g = pat_length r in omega (arith, g, l))
pats_turns n part whole (one_pattern {k} {ts} {p} r) h (suc turns) l rest calm e =
    items_last more none mark.Comma part turns (ts ++ rest) rest p (whole k ts p r (omega (arith, h)) rest calm) e
pats_turns n part whole (more_patterns {ts} {us} s r rs) h zero l rest calm e =
    absurd (let g = length-append ts (word s mark.Comma ∷ us) in omega (arith, g, l))
pats_turns n part whole (more_patterns {k} {ts} {us} {p} {ps} s r rs) h (suc turns) l rest calm e =
    ap (items more none mark.Comma part (suc turns)) (append_assoc ts (word s mark.Comma ∷ us) rest)
    ∙ items_next more none mark.Comma part turns (ts ++ word s mark.Comma ∷ (us ++ rest)) (us ++ rest) rest s p ps
    (whole k ts p r (omega (arith, h)) (word s mark.Comma ∷ (us ++ rest)) (record { no_text = refl; no_match = refl }))
    (pats_turns n part whole rs (omega (arith, h)) turns (let g = length-append ts (word s mark.Comma ∷ us) in omega (arith, g, l)) rest calm e)

pub pats_whole : (n : ℕ) (part : Read Pat) → WholePat n part → (ts : List Tok) (ps : Pats) → ReadsPats ts ps → patterns_depth ps ≤ n
    → (rest : List Tok) → CalmPat rest → behind mark.Comma rest ≡ None → read_pats part (ts ++ rest) ≡ Some (ps, rest)
pats_whole n part whole ts ps r h rest calm e =
    pats_turns n part whole r h (length (ts ++ rest)) (let g = length-append ts rest in omega (arith, g)) rest calm e

-- what a mark closes is followed by that mark
pub reclosed : (ts rest : List Tok) (t : Tok) → (ts ++ t ∷ []) ++ rest ≡ ts ++ t ∷ rest
reclosed ts rest t = append_assoc ts (t ∷ []) rest

-- tuples
tuple_whole : (n : ℕ) (part : Read Pat) → WholePat n part → (o c : Place) {ts : List Tok} {ps : Pats} → ReadsPatsOrNone ts ps → patterns_depth ps ≤ n
    → (rest : List Tok) → single_pat part (word o mark.BraceOpen ∷ ((ts ++ word c mark.BraceClose ∷ []) ++ rest)) ≡ Some (tuple o.line ps, rest)
tuple_whole n part whole o c no_patterns h rest = refl
tuple_whole n part whole o c (some_patterns {ts} {ps} r) h rest =
    ap (λ v. tuple_at part o v (behind mark.BraceClose v)) (reclosed ts rest (word c mark.BraceClose))
    ∙ (ap (tuple_at part o (ts ++ closing)) (pats_begin r mark.BraceClose (record { minus = refl; brace = refl; bracket = refl }) closing)
    ∙ ap (λ v. tuple_of o (closed mark.BraceClose v)) (pats_whole n part whole ts ps r h closing (record { no_text = refl; no_match = refl }) refl))
  where
    closing : List Tok
    closing = word c mark.BraceClose ∷ rest

-- lists
list_whole : (n : ℕ) (part : Read Pat) → WholePat n part → (o c : Place) {ts : List Tok} {ps : Pats} → ReadsPatsOrNone ts ps → patterns_depth ps ≤ n
    → (rest : List Tok) → single_pat part (word o mark.BracketOpen ∷ ((ts ++ word c mark.BracketClose ∷ []) ++ rest)) ≡ Some (list o.line ps, rest)
list_whole n part whole o c no_patterns h rest = refl
list_whole n part whole o c (some_patterns {ts} {ps} r) h rest =
    ap (λ v. list_at part o v (behind mark.BracketClose v)) (reclosed ts rest (word c mark.BracketClose))
    ∙ (ap (list_at part o (ts ++ closing)) (pats_begin r mark.BracketClose (record { minus = refl; brace = refl; bracket = refl }) closing)
    ∙ ap (elements_at part o) (pats_whole n part whole ts ps r h closing (record { no_text = refl; no_match = refl }) refl))
  where
    closing : List Tok
    closing = word c mark.BracketClose ∷ rest

tail_whole : (n : ℕ) (part : Read Pat) → WholePat n part → (o b c : Place) (k : ℕ) (ts us : List Tok) (ps : Pats) (t : Pat)
    → ReadsPats ts ps → ReadsPat k us t → patterns_depth ps ≤ n → pattern_depth t ≤ n → (rest : List Tok)
    → single_pat part (word o mark.BracketOpen ∷ ((ts ++ word b mark.Bar ∷ (us ++ word c mark.BracketClose ∷ [])) ++ rest))
    ≡ Some (list_with_tail o.line ps t, rest)
tail_whole n part whole o b c k ts us ps t r q h g rest =
    ap (λ v. list_at part o v (behind mark.BracketClose v))
    (append_assoc ts (word b mark.Bar ∷ (us ++ word c mark.BracketClose ∷ [])) rest
    ∙ ap (λ v. ts ++ word b mark.Bar ∷ v) (reclosed us rest (word c mark.BracketClose)))
    ∙ (ap (list_at part o (ts ++ bar)) (pats_begin r mark.BracketClose (record { minus = refl; brace = refl; bracket = refl }) bar)
    ∙ (ap (elements_at part o) (pats_whole n part whole ts ps r h bar (record { no_text = refl; no_match = refl }) refl)
    ∙ ap (λ v. tail_of o ps (closed mark.BracketClose v)) (whole k us t q g closing (record { no_text = refl; no_match = refl }))))
  where
    closing : List Tok
    closing = word c mark.BracketClose ∷ rest

    bar : List Tok
    bar = word b mark.Bar ∷ (us ++ closing)

-- a pattern without `=` at its top
single_whole : (n : ℕ) (part : Read Pat) → WholePat n part → {ts : List Tok} {p : Pat} → ReadsPat zero ts p → pattern_depth p ≤ suc n
    → (rest : List Tok) → begins_text rest ≡ false → single_pat part (ts ++ rest) ≡ Some (p, rest)
single_whole n part whole (p_variable r) h rest e =
    let v = variable_whole r in
    ap (λ t. single_pat part (t ∷ rest)) v.2 ∙ ap (λ p. Some (p, rest)) v.3
single_whole n part whole (p_integer {s} {n = i} small) h rest e =
    ap (λ b. provided b (λ us. Some (int s.line (pos i), us)) rest) (le_is i most_integer small)
single_whole n part whole (p_negative {s} {n = i} small) h rest e =
    ap (λ b. provided b (λ us. Some (int s.line (neg_ℤ (pos i)), us)) rest) (le_is i most_integer small)
single_whole n part whole p_character h rest e = refl
single_whole n part whole p_atom h rest e = refl
single_whole n part whole (p_string {ts} {cs} r) h rest e =
    let t = string_whole r rest e in
    ap (λ v. single_pat part (v ++ rest)) t.parted
    ∙ (λ i. Some (string (line_at (sym t.parted i)) (t.text i), t.behind i))
single_whole n part whole (p_tuple o c r) h rest e = tuple_whole n part whole o c r (omega (arith, h)) rest
single_whole n part whole (p_list o c r) h rest e = list_whole n part whole o c r (omega (arith, h)) rest
single_whole n part whole (p_list_with_tail {k} {ts} {us} {ps} {t} o b c r q) h rest e =
    tail_whole n part whole o b c k ts us ps t r q (omega (arith, h)) (omega (arith, h)) rest

depth_positive : (p : Pat) → 1 ≤ pattern_depth p
depth_positive (int l i) = omega arith
depth_positive (atom l a) = omega arith
depth_positive (string l cs) = omega arith
depth_positive (variable l x) = omega arith
depth_positive (any l) = omega arith
depth_positive (tuple l ps) = omega arith
depth_positive (list l ps) = omega arith
depth_positive (list_with_tail l ps t) = omega arith
depth_positive (both l p q) = omega arith

-- patterns joined by `=`
joined_whole : (n : ℕ) (part : Read Pat) → WholePat n part → {k : ℕ} {ts : List Tok} {p : Pat} → ReadsPat k ts p → pattern_depth p ≤ suc n
    → (rest : List Tok) → CalmPat rest → joined_pats n part (single_pat part (ts ++ rest)) ≡ Some (p, rest)
joined_whole n part whole (p_both {k} {ts} {us} {p} {q} s r t) h rest calm =
    ap (λ v. joined_pats n part (single_pat part v)) (append_assoc ts (word s mark.Match ∷ us) rest)
    ∙ (ap (joined_pats n part) (single_whole n part whole r (omega (arith, h)) (word s mark.Match ∷ (us ++ rest)) refl)
    ∙ (ap (λ b. if b then both_of p (part (us ++ rest)) else None) (le_is (pattern_depth p) n (omega (arith, h)))
    ∙ (ap (both_of p) (whole k us q t (omega (arith, h)) rest calm)
    ∙ ap (λ l. Some (both l p q, rest)) (pat_line r))))
joined_whole n part whole {ts} {p} r h rest calm =
    ap (joined_pats n part) (single_whole n part whole r h rest calm.no_text) ∙ ap (both_at n part p rest) calm.no_match

pub pat_complete : (n : ℕ) → WholePat n (read_pat n)
pat_complete zero k ts p r h rest calm = absurd (let g = depth_positive p in omega (arith, g, h))
pat_complete (suc n) k ts p r h rest calm = joined_whole n (read_pat n) (pat_complete n) r h rest calm

pub single_complete : (n : ℕ) (ts : List Tok) (p : Pat) → ReadsPat zero ts p → pattern_depth p ≤ n
    → (rest : List Tok) → begins_text rest ≡ false → read_single n (ts ++ rest) ≡ Some (p, rest)
single_complete zero ts p r h rest e = absurd (let g = depth_positive p in omega (arith, g, h))
single_complete (suc n) ts p r h rest e = single_whole n (read_pat n) (pat_complete n) r h rest e

pub pats_complete : (n : ℕ) (ts : List Tok) (ps : Pats) → ReadsPats ts ps → patterns_depth ps ≤ n
    → (rest : List Tok) → CalmPat rest → behind mark.Comma rest ≡ None → read_pats (read_pat n) (ts ++ rest) ≡ Some (ps, rest)
pats_complete n = pats_whole n (read_pat n) (pat_complete n)

-- tokens are one pattern at most
pub one_pattern_tree : {j k : ℕ} {ts : List Tok} {p q : Pat} → ReadsPat j ts p → ReadsPat k ts q → p ≡ q
one_pattern_tree {j} {k} {ts} {p} {q} r s =
    ap (λ a. a.0)
    (some_is (p, []) (q, [])
    (sym (pat_complete (pattern_depth p + pattern_depth q) j ts p r (omega arith) [] (record { no_text = refl; no_match = refl }))
    ∙ pat_complete (pattern_depth p + pattern_depth q) k ts q s (omega arith) [] (record { no_text = refl; no_match = refl })))
