-- What begins with a mark or a reserved word is read whole from the front of the tokens, where its parts are.

use Rattle.std.proofs.Common.{◌≡◌, ℕ, zero, suc, ◌≤◌, true, if◌then◌else◌, List, [], ◌∷◌, ◌++◌, length, length-append, Some, None, refl, ◌∙◌, ap, append_assoc, arith, codes}
use Rattle.edb_scan.specs.declared.lexeme.Mark.TheVariants as mark
use Rattle.edb_scan.specs.declared.lexeme.Token.TheVariants.{Int, Atom}
use Rattle.edb_syntax.specs.Depths.{depth, depths, sequence_depth, after_depth, clauses_depth, catch_depth, catches_depth, qualifier_depth, qualifiers_depth}
use Rattle.edb_syntax.specs.Forms.{tuple, list, list_with_tail, with_last}
use Rattle.edb_syntax.specs.Patterns as pattern
use Rattle.edb_syntax.specs.Patterns.{Pat, pattern_line}
use Rattle.edb_syntax.specs.Syntax.{Exp, Exps, Seq, After, Guards, Clauses, CatchTree, Catches, QualifierTree, Qualifiers, begin, case, if_clauses, receive, receive_after, try, fun_clauses, fun_local, fun_remote, comprehension, none, more, after, no_clauses, no_catches, more_catches, generator, filter, no_qualifiers, more_qualifiers}
use Rattle.edb_grammar.specs.Toks.{Place, Tok, tok, word, line_at}
use Rattle.edb_grammar.specs.Patterns.{ReadsVariable, ReadsPat, p_variable, p_integer, p_negative, p_character, p_atom, p_string, p_tuple, p_list, p_list_with_tail, p_both}
use Rattle.edb_grammar.specs.Strings.{last_string, next_string}
use Rattle.edb_grammar.specs.Expressions.{Reads, ReadsAll, ReadsAllOrNone, ReadsBody, ReadsClauses, ReadsClausesOrNone, ReadsRest, ReadsOf, ReadsCatch, ReadsAfter, ReadsClass, ReadsHandler, ReadsHandlers, ReadsQualifier, ReadsQualifiers, one_pattern, guard_alone, parameters, handles, most_parameters, atom_class, variable_class, one_expression, more_expressions, no_expressions, some_expressions, without_guard, with_guard, pattern_clause, parameters_clause, last_clause, next_clause, without_clauses, some_clauses, without_of, with_of, without_catch, with_catch, without_after, with_after, thrown, with_class, with_stack, last_handler, next_handler, a_generator, a_filter, last_qualifier, next_qualifier}
use Rattle.edb_grammar.specs.Reading.{Read, behind, closed, closed_at, items, onward, made, fork, choose, refuse, provided}
use Rattle.edb_grammar.specs.PatternReading.{read_pat}
use Rattle.edb_grammar.specs.ExpressionReading.{Reader, read_all, read_until, read_body, read_rest, read_pattern_clause, read_guard_clause, read_parameters_clause, read_clauses, is_fun, read_timeout, read_receive, class_of, class_at, read_class, read_stack, catch_of, read_handler, read_of, read_catch, read_after, read_try, read_fun_clauses, read_fun_name, read_fun, read_qualifier, read_qualifiers, read_elements, read_list, read_bracketed, read_marked, read_arguments}
use Rattle.edb_grammar.proofs.Follow.{Calm, Whole, WholePat}
use Rattle.edb_grammar.proofs.PatternSound.{pat_line}
use Rattle.edb_grammar.proofs.PatternComplete.{le_is, pat_begins, pat_length, variable_whole}
use Rattle.edb_grammar.proofs.ListComplete.{WholeBy, Listed, last_listed, next_listed, listed_whole, closed_here, onward_part, onward_closed, made_closed, calm_mark, Ends, ends_mark, Closes, closes_mark, exp_begins, exp_length}
use Rattle.edb_grammar.proofs.ClauseComplete.{NoGenerator, all_complete, until_complete, body_complete, rest_calm, rest_length, rest_complete, pattern_clause_complete, guard_clause_complete, parameters_clause_complete, clauses_complete, is_fun_complete}

-- tuples
pub tuple_complete : (m n : ℕ) (part inside : Read Exp) → Whole m n part
    → (o c : Place) {ts : List Tok} {es : Exps} → ReadsAllOrNone m ts es → depth (tuple o.line es) ≤ suc n
    → (rest : List Tok) → read_marked m n part inside o mark.BraceOpen ((ts ++ word c mark.BraceClose ∷ []) ++ rest) ≡ Some (tuple o.line es, rest)
tuple_complete m n part inside whole o c {ts} r h rest =
    ap (λ v. made (tuple o.line) (read_until mark.BraceClose part v)) (append_assoc ts (word c mark.BraceClose ∷ []) rest)
    ∙ ap (made (tuple o.line))
    (until_complete m n mark.BraceClose part whole refl (ends_mark mark.BraceClose refl refl) r (omega (arith, h)) c rest)

-- the arguments of a call, with the parenthesis that closes them
pub arguments_complete : (m n : ℕ) (sub : Reader) → Whole m n (sub m 10) → {ts : List Tok} {es : Exps} → ReadsAllOrNone m ts es → depths es ≤ n
    → (c : Place) (rest : List Tok) → read_arguments (suc m) sub (ts ++ word c mark.ParenClose ∷ rest) ≡ Some (es, rest)
arguments_complete m n sub whole r h c rest =
    until_complete m n mark.ParenClose (sub m 10) whole refl (ends_mark mark.ParenClose refl refl) r h c rest

-- lists, and comprehensions
abbrev behind_first : ℕ → Read Exp → Place → Exp → Read Exp
behind_first n part o e vs =
    fork (behind mark.BarBar vs) (λ ws. made (comprehension o.line e) (closed mark.BracketClose (read_qualifiers n part ws)))
    (λ ws. onward (read_elements part e ws) (read_list part o)) vs

first_complete : (m n : ℕ) (part : Read Exp) → Whole m n part → (o : Place) {k : ℕ} {ts : List Tok} {e : Exp} → Reads m k ts e → depth e ≤ n
    → (rest : List Tok) → Calm 10 rest → read_bracketed n part o (ts ++ rest) ≡ behind_first n part o e rest
first_complete m n part whole o {k} {ts} {e} r h rest f =
    ap (λ p. fork p (λ us. Some (list o.line none, us)) (λ us. onward (part us) (behind_first n part o)) (ts ++ rest))
    (exp_begins r mark.BracketClose refl rest)
    ∙ ap (λ p. onward p (behind_first n part o)) (whole k ts e r h rest f)

elements_complete : (m n : ℕ) (part : Read Exp) → Whole m n part → (o : Place) {ts : List Tok} {es : Exps} → ReadsAll m ts es → depths es ≤ n
    → (rest : List Tok) → Ends rest → behind mark.BarBar rest ≡ None → read_bracketed n part o (ts ++ rest) ≡ read_list part o es rest
elements_complete m n part whole o (one_expression {k} {ts} {e} r) h rest f b =
    first_complete m n part whole o r (omega (arith, h)) rest f.calm
    ∙ (ap (λ p. fork p (λ ws. made (comprehension o.line e) (closed mark.BracketClose (read_qualifiers n part ws)))
    (λ ws. onward (read_elements part e ws) (read_list part o)) rest) b
    ∙ ap (λ p. onward (fork p (λ us. made (more e) (read_all part us)) (λ us. Some (more e none, us)) rest) (read_list part o)) f.no_comma)
elements_complete m n part whole o (more_expressions {k} {ts} {us} {e} {es} s r rs) h rest f b =
    ap (read_bracketed n part o) (append_assoc ts (word s mark.Comma ∷ us) rest)
    ∙ (first_complete m n part whole o r (omega (arith, h)) (word s mark.Comma ∷ (us ++ rest)) (calm_mark mark.Comma refl s (us ++ rest))
    ∙ ap (λ p. onward (made (more e) p) (read_list part o)) (all_complete m n part whole us es (rs, omega (arith, h)) rest f))

pub list_complete : (m n : ℕ) (part inside : Read Exp) → Whole m n part
    → (o c : Place) {ts : List Tok} {es : Exps} → ReadsAllOrNone m ts es → depth (list o.line es) ≤ suc n
    → (rest : List Tok) → read_marked m n part inside o mark.BracketOpen ((ts ++ word c mark.BracketClose ∷ []) ++ rest) ≡ Some (list o.line es, rest)
list_complete m n part inside whole o c no_expressions h rest = refl
list_complete m n part inside whole o c {ts} (some_expressions r) h rest =
    ap (read_bracketed n part o) (append_assoc ts (word c mark.BracketClose ∷ []) rest)
    ∙ elements_complete m n part whole o r (omega (arith, h)) (word c mark.BracketClose ∷ rest)
    (ends_mark mark.BracketClose refl refl c rest) refl

depths_last : (n : ℕ) (es : Exps) (t : Exp) → depths (with_last es t) ≤ n → (depths es ≤ n) × (depth t ≤ n)
depths_last n none t h = (omega arith, omega (arith, h))
depths_last n (more e es) t h = let d = depths_last n es t (omega (arith, h)) in (omega (arith, h, d.0), d.1)

pub list_with_tail_complete : (m n : ℕ) (part inside : Read Exp) → Whole m n part
    → (o b c : Place) {k : ℕ} {ts us : List Tok} {es : Exps} {t : Exp} → ReadsAll m ts es → Reads m k us t
    → depth (list_with_tail o.line es t) ≤ suc n
    → (rest : List Tok) → read_marked m n part inside o mark.BracketOpen ((ts ++ word b mark.Bar ∷ (us ++ word c mark.BracketClose ∷ [])) ++ rest)
    ≡ Some (list_with_tail o.line es t, rest)
list_with_tail_complete m n part inside whole o b c {k} {ts} {us} {es} {t} r q h rest =
    let d = depths_last n es t (omega (arith, h)) in
    ap (read_bracketed n part o) (append_assoc ts (word b mark.Bar ∷ (us ++ word c mark.BracketClose ∷ [])) rest)
    ∙ (elements_complete m n part whole o r d.0 (word b mark.Bar ∷ ((us ++ word c mark.BracketClose ∷ []) ++ rest))
    (ends_mark mark.Bar refl refl b ((us ++ word c mark.BracketClose ∷ []) ++ rest)) refl
    ∙ made_closed mark.BracketClose part (list_with_tail o.line es) us rest c t
    (whole k us t q d.1 (word c mark.BracketClose ∷ rest) (calm_mark mark.BracketClose refl c rest)))

-- `begin`
pub begin_complete : (m n : ℕ) (part inside : Read Exp) → Whole m n part
    → (o c : Place) {ts : List Tok} {s : Seq} → ReadsBody m ts s → depth (begin o.line s) ≤ suc n
    → (rest : List Tok) → read_marked m n part inside o mark.Begin ((ts ++ word c mark.End ∷ []) ++ rest) ≡ Some (begin o.line s, rest)
begin_complete m n part inside whole o c {ts} {s} r h rest =
    made_closed mark.End (read_body part) (begin o.line) ts rest c s
    (body_complete m n part whole ts s (r, omega (arith, h)) (word c mark.End ∷ rest) (ends_mark mark.End refl refl c rest))

-- `case`
pub case_complete : (m n : ℕ) (part inside : Read Exp) → Whole m n part → WholePat n (read_pat n)
    → (o f c : Place) {k : ℕ} {ts us : List Tok} {e : Exp} {cs : Clauses} → Reads m k ts e → ReadsClauses m one_pattern us cs
    → depth (case o.line e cs) ≤ suc n
    → (rest : List Tok) → read_marked m n part inside o mark.Case ((ts ++ word f mark.Of ∷ (us ++ word c mark.End ∷ [])) ++ rest)
    ≡ Some (case o.line e cs, rest)
case_complete m n part inside whole pats o f c {k} {ts} {us} {e} {cs} r rs h rest =
    onward_closed mark.Of part (λ a vs. made (case o.line a) (closed mark.End (read_clauses (read_pattern_clause n part) vs)))
    ts (us ++ word c mark.End ∷ []) rest f e (Some (case o.line e cs, rest))
    (whole k ts e r (omega (arith, h)) (word f mark.Of ∷ ((us ++ word c mark.End ∷ []) ++ rest))
    (calm_mark mark.Of refl f ((us ++ word c mark.End ∷ []) ++ rest)))
    (made_closed mark.End (read_clauses (read_pattern_clause n part)) (case o.line e) us rest c cs
    (clauses_complete m n one_pattern (read_pattern_clause n part) (pattern_clause_complete m n part whole pats) us cs (rs, omega (arith, h))
    (word c mark.End ∷ rest) (closes_mark mark.End refl refl refl c rest)))

-- `if`
pub if_complete : (m n : ℕ) (part inside : Read Exp) → Whole m n part
    → (o c : Place) {ts : List Tok} {cs : Clauses} → ReadsClauses m guard_alone ts cs → depth (if_clauses o.line cs) ≤ suc n
    → (rest : List Tok) → read_marked m n part inside o mark.If ((ts ++ word c mark.End ∷ []) ++ rest) ≡ Some (if_clauses o.line cs, rest)
if_complete m n part inside whole o c {ts} {cs} r h rest =
    made_closed mark.End (read_clauses (read_guard_clause part)) (if_clauses o.line) ts rest c cs
    (clauses_complete m n guard_alone (read_guard_clause part) (guard_clause_complete m n part whole) ts cs (r, omega (arith, h))
    (word c mark.End ∷ rest) (closes_mark mark.End refl refl refl c rest))

-- qualifiers
abbrev BoundedQualifier : ℕ → ℕ → List Tok → QualifierTree → Type 0
BoundedQualifier m n ts q = ReadsQualifier m ts q × (qualifier_depth q ≤ n)

-- what may stand behind a qualifier
record EndsQualifier (rest : List Tok) : Type 0 where
  calm : Calm 10 rest
  no_arrow : behind mark.From rest ≡ None

qualifier_complete : (m n : ℕ) (part : Read Exp) → Whole m n part → WholePat n (read_pat n) → NoGenerator m n
    → WholeBy (BoundedQualifier m n) EndsQualifier (read_qualifier n part)
qualifier_complete m n part whole pats apart ts q (a_generator {j} {k} {ts = vs} {us} {p} {e} s r t, h) rest f =
    ap (read_qualifier n part) (append_assoc vs (word s mark.From ∷ us) rest)
    ∙ (ap (λ o. choose o (λ d ws. made (generator d) (part ws)) (λ ws. made filter (part ws)) (vs ++ word s mark.From ∷ (us ++ rest)))
    (closed_here mark.From (read_pat n (vs ++ word s mark.From ∷ (us ++ rest))) p s (us ++ rest)
    (pats j vs p r (omega (arith, h)) (word s mark.From ∷ (us ++ rest)) (record { no_text = refl; no_match = refl })))
    ∙ ap (made (generator p)) (whole k us e t (omega (arith, h)) rest f.calm))
qualifier_complete m n part whole pats apart ts q (a_filter {k} {e} r, h) rest f =
    ap (λ o. choose o (λ d ws. made (generator d) (part ws)) (λ ws. made filter (part ws)) (ts ++ rest)) (apart k ts e r h rest f.calm f.no_arrow)
    ∙ ap (made filter) (whole k ts e r h rest f.calm)

qualifier_length : {m : ℕ} {ts : List Tok} {q : QualifierTree} → ReadsQualifier m ts q → 1 ≤ length ts
qualifier_length (a_generator {ts} {us} s r t) = let n = pat_length r in let j = length-append ts (word s mark.From ∷ us) in omega (arith, n, j)
qualifier_length (a_filter r) = exp_length r

qualifiers_listed : (m n : ℕ) {ts : List Tok} {qs : Qualifiers} → ReadsQualifiers m ts qs → qualifiers_depth qs ≤ n
    → Listed (BoundedQualifier m n) more_qualifiers no_qualifiers mark.Comma ts qs
qualifiers_listed m n (last_qualifier {ts} {q} r) h = last_listed ts q (r, omega (arith, h))
qualifiers_listed m n (next_qualifier {ts} {us} {q} {qs} s r rs) h =
    next_listed s ts us q qs (r, omega (arith, h)) (qualifiers_listed m n rs (omega (arith, h)))

qualifiers_complete : (m n : ℕ) (part : Read Exp) → Whole m n part → WholePat n (read_pat n) → NoGenerator m n
    → {ts : List Tok} {qs : Qualifiers} → ReadsQualifiers m ts qs → qualifiers_depth qs ≤ n
    → (rest : List Tok) → EndsQualifier rest → behind mark.Comma rest ≡ None → read_qualifiers n part (ts ++ rest) ≡ Some (qs, rest)
qualifiers_complete m n part whole pats apart {ts} {qs} r h rest f e =
    listed_whole (BoundedQualifier m n) EndsQualifier more_qualifiers no_qualifiers mark.Comma (read_qualifier n part)
    (λ us q b. qualifier_length b.0) (qualifier_complete m n part whole pats apart)
    (λ s us. record { calm = calm_mark mark.Comma refl s us; no_arrow = refl }) ts qs (qualifiers_listed m n r h) rest f e

pub comprehension_complete : (m n : ℕ) (part inside : Read Exp) → Whole m n part → WholePat n (read_pat n) → NoGenerator m n
    → (o b c : Place) {k : ℕ} {ts us : List Tok} {e : Exp} {qs : Qualifiers} → Reads m k ts e → ReadsQualifiers m us qs
    → depth (comprehension o.line e qs) ≤ suc n
    → (rest : List Tok) → read_marked m n part inside o mark.BracketOpen ((ts ++ word b mark.BarBar ∷ (us ++ word c mark.BracketClose ∷ [])) ++ rest)
    ≡ Some (comprehension o.line e qs, rest)
comprehension_complete m n part inside whole pats apart o b c {k} {ts} {us} {e} {qs} r rs h rest =
    ap (read_bracketed n part o) (append_assoc ts (word b mark.BarBar ∷ (us ++ word c mark.BracketClose ∷ [])) rest)
    ∙ (first_complete m n part whole o r (omega (arith, h)) (word b mark.BarBar ∷ ((us ++ word c mark.BracketClose ∷ []) ++ rest))
    (calm_mark mark.BarBar refl b ((us ++ word c mark.BracketClose ∷ []) ++ rest))
    ∙ made_closed mark.BracketClose (read_qualifiers n part) (comprehension o.line e) us rest c qs
    (qualifiers_complete m n part whole pats apart rs (omega (arith, h)) (word c mark.BracketClose ∷ rest)
    (record { calm = calm_mark mark.BracketClose refl c rest; no_arrow = refl }) refl))

-- `receive`
clauses_begin : {m : ℕ} {ts : List Tok} {cs : Clauses} → ReadsClauses m one_pattern ts cs → (rest : List Tok) → behind mark.After (ts ++ rest) ≡ None
clauses_begin (last_clause (pattern_clause {ts} {us} r t)) rest =
    ap (behind mark.After) (append_assoc ts us rest) ∙ pat_begins r mark.After (record { minus = refl; brace = refl; bracket = refl }) (us ++ rest)
clauses_begin (next_clause {us = vs} s (pattern_clause {ts} {us} r t) rs) rest =
    ap (behind mark.After) (append_assoc (ts ++ us) (word s mark.Semicolon ∷ vs) rest ∙ append_assoc ts us (word s mark.Semicolon ∷ (vs ++ rest)))
    ∙ pat_begins r mark.After (record { minus = refl; brace = refl; bracket = refl }) (us ++ word s mark.Semicolon ∷ (vs ++ rest))

abbrev behind_clauses : Read Exp → Place → Clauses → Read Exp
behind_clauses part o cs vs =
    fork (behind mark.End vs) (λ ws. Some (receive o.line cs, ws)) (λ ws. fork (behind mark.After ws) (read_timeout part o cs) refuse ws) vs

awaited_complete : (m n : ℕ) (part : Read Exp) → Whole m n part → WholePat n (read_pat n)
    → (o : Place) {ts : List Tok} {cs : Clauses} → ReadsClauses m one_pattern ts cs → clauses_depth cs ≤ n
    → (rest : List Tok) → Closes rest → read_receive n part o (ts ++ rest) ≡ behind_clauses part o cs rest
awaited_complete m n part whole pats o {ts} {cs} r h rest f =
    ap (λ p. fork p (read_timeout part o no_clauses) (λ us. onward (read_clauses (read_pattern_clause n part) us) (behind_clauses part o)) (ts ++ rest))
    (clauses_begin r rest)
    ∙ ap (λ p. onward p (behind_clauses part o))
    (clauses_complete m n one_pattern (read_pattern_clause n part) (pattern_clause_complete m n part whole pats) ts cs (r, h) rest f)

pub receive_complete : (m n : ℕ) (part inside : Read Exp) → Whole m n part → WholePat n (read_pat n)
    → (o c : Place) {ts : List Tok} {cs : Clauses} → ReadsClauses m one_pattern ts cs → depth (receive o.line cs) ≤ suc n
    → (rest : List Tok) → read_marked m n part inside o mark.Receive ((ts ++ word c mark.End ∷ []) ++ rest) ≡ Some (receive o.line cs, rest)
receive_complete m n part inside whole pats o c {ts} r h rest =
    ap (read_receive n part o) (append_assoc ts (word c mark.End ∷ []) rest)
    ∙ awaited_complete m n part whole pats o r (omega (arith, h)) (word c mark.End ∷ rest) (closes_mark mark.End refl refl refl c rest)

timeout_complete : (m n : ℕ) (part : Read Exp) → Whole m n part → (o w c : Place) (cs : Clauses) {k : ℕ} {us vs : List Tok} {e : Exp} {s : Seq}
    → Reads m k us e → ReadsBody m vs s → depth e ≤ n → sequence_depth s ≤ n
    → (rest : List Tok) → read_timeout part o cs ((us ++ word w mark.Arrow ∷ (vs ++ word c mark.End ∷ [])) ++ rest)
    ≡ Some (receive_after o.line cs e s, rest)
timeout_complete m n part whole o w c cs {k} {us} {vs} {e} {s} r b h d rest =
    onward_closed mark.Arrow part (λ a ws. made (receive_after o.line cs a) (closed mark.End (read_body part ws)))
    us (vs ++ word c mark.End ∷ []) rest w e (Some (receive_after o.line cs e s, rest))
    (whole k us e r h (word w mark.Arrow ∷ ((vs ++ word c mark.End ∷ []) ++ rest))
    (calm_mark mark.Arrow refl w ((vs ++ word c mark.End ∷ []) ++ rest)))
    (made_closed mark.End (read_body part) (receive_after o.line cs e) vs rest c s
    (body_complete m n part whole vs s (b, d) (word c mark.End ∷ rest) (ends_mark mark.End refl refl c rest)))

pub receive_after_complete : (m n : ℕ) (part inside : Read Exp) → Whole m n part → WholePat n (read_pat n)
    → (o a w c : Place) {k : ℕ} {ts us vs : List Tok} {cs : Clauses} {e : Exp} {s : Seq}
    → ReadsClausesOrNone m one_pattern ts cs → Reads m k us e → ReadsBody m vs s → depth (receive_after o.line cs e s) ≤ suc n
    → (rest : List Tok)
    → read_marked m n part inside o mark.Receive ((ts ++ word a mark.After ∷ (us ++ word w mark.Arrow ∷ (vs ++ word c mark.End ∷ []))) ++ rest)
    ≡ Some (receive_after o.line cs e s, rest)
receive_after_complete m n part inside whole pats o a w c without_clauses r b h rest =
    timeout_complete m n part whole o w c no_clauses r b (omega (arith, h)) (omega (arith, h)) rest
receive_after_complete m n part inside whole pats o a w c {us} {vs} (some_clauses {ts} {cs} rs) r b h rest =
    ap (read_receive n part o) (append_assoc ts (word a mark.After ∷ timeout) rest)
    ∙ (awaited_complete m n part whole pats o rs (omega (arith, h)) (word a mark.After ∷ (timeout ++ rest))
    (closes_mark mark.After refl refl refl a (timeout ++ rest))
    ∙ timeout_complete m n part whole o w c cs r b (omega (arith, h)) (omega (arith, h)) rest)
  where
    timeout : List Tok
    timeout = us ++ word w mark.Arrow ∷ (vs ++ word c mark.End ∷ [])

-- clauses behind `catch`
class_whole : {t : Tok} {c : Pat} → ReadsClass t c → class_of t ≡ Some c
class_whole atom_class = refl
class_whole (variable_class r) = let v = variable_whole r in ap class_of v.2 ∙ ap Some v.3

-- no class stands where a pattern begins behind which no `:` stands
class_none : {k : ℕ} {ts : List Tok} {p : Pat} → ReadsPat k ts p → (rest : List Tok) → behind mark.Colon rest ≡ None
    → read_class (ts ++ rest) ≡ None
class_none (p_variable {t} {p} r) rest h = ap (λ o. class_at o rest) (class_whole (variable_class r)) ∙ ap (closed_at p) h
class_none (p_integer small) rest h = refl
class_none (p_negative small) rest h = refl
class_none p_character rest h = refl
class_none (p_atom {s} {a}) rest h = ap (closed_at (pattern.atom s.line a)) h
class_none (p_string last_string) rest h = refl
class_none (p_string (next_string s cs r)) rest h = refl
class_none (p_tuple o c r) rest h = refl
class_none (p_list o c r) rest h = refl
class_none (p_list_with_tail o b c r t) rest h = refl
class_none (p_both {ts} {us} s r t) rest h =
    ap read_class (append_assoc ts (word s mark.Match ∷ us) rest) ∙ class_none r (word s mark.Match ∷ (us ++ rest)) refl

rest_colon : {m : ℕ} {us : List Tok} {g : Guards} {s : Seq} → ReadsRest m us g s → (rest : List Tok) → behind mark.Colon (us ++ rest) ≡ None
rest_colon (without_guard w b) rest = refl
rest_colon (with_guard h w g b) rest = refl

stack_whole : {v : Tok} {x : Pat} → ReadsVariable v x → (rest : List Tok) → read_stack (v ∷ rest) ≡ Some (x, rest)
stack_whole r rest = let v = variable_whole r in ap (λ t. read_stack (t ∷ rest)) v.2 ∙ ap (λ y. Some (y, rest)) v.3

abbrev BoundedHandler : ℕ → ℕ → List Tok → CatchTree → Type 0
BoundedHandler m n ts h = ReadsHandler m ts h × (catch_depth h ≤ n)

abbrev untraced : Read Exp → Pat → Pat → Read CatchTree
untraced part c p ws = made (catch_of c p None) (read_rest part ws)

abbrev behind_pattern : Read Exp → Pat → Pat → Read CatchTree
behind_pattern part c p vs =
    fork (behind mark.Colon vs) (λ ws. onward (read_stack ws) (λ v xs. made (catch_of c p (Some v)) (read_rest part xs))) (untraced part c p) vs

abbrev throws : Read Exp → Pat → Read CatchTree
throws part p = untraced part (pattern.atom (pattern_line p) (codes "throw")) p

handler_complete : (m n : ℕ) (part : Read Exp) → Whole m n part → WholePat n (read_pat n) → WholeBy (BoundedHandler m n) Ends (read_handler n part)
handler_complete m n part whole pats ws tree (thrown {k} {ts} {us} {p} {g} {s} r t, h) rest f =
    ap (read_handler n part) (append_assoc ts us rest)
    ∙ (ap (λ o. choose o (λ c vs. onward (read_pat n vs) (behind_pattern part c)) (λ vs. onward (read_pat n vs) (throws part)) (ts ++ (us ++ rest)))
    (class_none r (us ++ rest) (rest_colon t rest))
    ∙ (ap (λ o. onward o (throws part)) (pats k ts p r (omega (arith, h)) (us ++ rest) (rest_calm t rest))
    ∙ (ap (λ l. untraced part (pattern.atom l (codes "throw")) p (us ++ rest)) (pat_line r)
    ∙ ap (made (catch_of (pattern.atom (line_at ts) (codes "throw")) p None))
    (rest_complete m n part whole t (omega (arith, h)) (omega (arith, h)) rest f))))
handler_complete m n part whole pats ws tree (with_class {k} {t = y} {ts} {us} {c} {p} {g} {s} d b r t, h) rest f =
    ap (λ o. choose (class_at o (word d mark.Colon ∷ ((ts ++ us) ++ rest))) (λ a vs. onward (read_pat n vs) (behind_pattern part a))
    (λ vs. onward (read_pat n vs) (throws part)) (y ∷ word d mark.Colon ∷ ((ts ++ us) ++ rest))) (class_whole b)
    ∙ onward_part (read_pat n) (behind_pattern part c) ts us rest p (Some (tree, rest)) (pats k ts p r (omega (arith, h)) (us ++ rest) (rest_calm t rest))
    (ap (λ o. fork o (λ vs. onward (read_stack vs) (λ v xs. made (catch_of c p (Some v)) (read_rest part xs))) (untraced part c p) (us ++ rest))
    (rest_colon t rest)
    ∙ ap (made (catch_of c p None)) (rest_complete m n part whole t (omega (arith, h)) (omega (arith, h)) rest f))
handler_complete m n part whole pats ws tree (with_stack {k} {t = y} {v} {ts} {us} {c} {p} {x} {g} {s} d e b r z t, h) rest f =
    ap (λ o. choose (class_at o (word d mark.Colon ∷ ((ts ++ word e mark.Colon ∷ v ∷ us) ++ rest)))
    (λ a vs. onward (read_pat n vs) (behind_pattern part a))
    (λ vs. onward (read_pat n vs) (throws part)) (y ∷ word d mark.Colon ∷ ((ts ++ word e mark.Colon ∷ v ∷ us) ++ rest))) (class_whole b)
    ∙ onward_part (read_pat n) (behind_pattern part c) ts (word e mark.Colon ∷ v ∷ us) rest p (Some (tree, rest))
    (pats k ts p r (omega (arith, h)) (word e mark.Colon ∷ v ∷ (us ++ rest)) (record { no_text = refl; no_match = refl }))
    (ap (λ o. onward o (λ w xs. made (catch_of c p (Some w)) (read_rest part xs))) (stack_whole z (us ++ rest))
    ∙ ap (made (catch_of c p (Some x))) (rest_complete m n part whole t (omega (arith, h)) (omega (arith, h)) rest f))

handler_length : {m : ℕ} {ts : List Tok} {h : CatchTree} → ReadsHandler m ts h → 1 ≤ length ts
handler_length (thrown {ts} {us} r t) = let n = rest_length t in let j = length-append ts us in omega (arith, n, j)
handler_length (with_class d b r t) = omega arith
handler_length (with_stack d e b r z t) = omega arith

handlers_listed : (m n : ℕ) {ts : List Tok} {hs : Catches} → ReadsHandlers m ts hs → catches_depth hs ≤ n
    → Listed (BoundedHandler m n) more_catches no_catches mark.Semicolon ts hs
handlers_listed m n (last_handler {ts} {h} r) k = last_listed ts h (r, omega (arith, k))
handlers_listed m n (next_handler {ts} {us} {h} {hs} s r rs) k =
    next_listed s ts us h hs (r, omega (arith, k)) (handlers_listed m n rs (omega (arith, k)))

-- the parts of a `try`, each with what may stand behind the one before it
after_complete : (m n : ℕ) (part : Read Exp) → Whole m n part → {ts : List Tok} {a : After} → ReadsAfter m ts a → after_depth a ≤ n
    → (c : Place) (rest : List Tok) → read_after part (ts ++ word c mark.End ∷ rest) ≡ Some (a, word c mark.End ∷ rest)
after_complete m n part whole without_after h c rest = refl
after_complete m n part whole (with_after {ts} {s} f r) h c rest =
    ap (made after) (body_complete m n part whole ts s (r, h) (word c mark.End ∷ rest) (ends_mark mark.End refl refl c rest))

-- what may stand behind the clauses behind `catch`, and behind those behind `of`
record EndsCatch (rest : List Tok) : Type 0 where
  closes : Closes rest
  no_catch : behind mark.Catch rest ≡ None
  no_of : behind mark.Of rest ≡ None

record EndsOf (rest : List Tok) : Type 0 where
  closes : Closes rest
  no_of : behind mark.Of rest ≡ None

after_ends : {m : ℕ} {ts : List Tok} {a : After} → ReadsAfter m ts a → (c : Place) (rest : List Tok) → EndsCatch (ts ++ word c mark.End ∷ rest)
after_ends without_after c rest = record { closes = closes_mark mark.End refl refl refl c rest; no_catch = refl; no_of = refl }
after_ends (with_after {ts} f r) c rest = record {
  closes = closes_mark mark.After refl refl refl f (ts ++ word c mark.End ∷ rest);
  no_catch = refl;
  no_of = refl;
}

catch_ends : {m : ℕ} {ts : List Tok} {hs : Catches} → ReadsCatch m ts hs → (rest : List Tok) → EndsCatch rest → EndsOf (ts ++ rest)
catch_ends without_catch rest f = record { closes = f.closes; no_of = f.no_of }
catch_ends (with_catch {ts} s r) rest f = record { closes = closes_mark mark.Catch refl refl refl s (ts ++ rest); no_of = refl }

of_ends : {m : ℕ} {ts : List Tok} {cs : Clauses} → ReadsOf m ts cs → (rest : List Tok) → EndsOf rest → Ends (ts ++ rest)
of_ends without_of rest f = f.closes.ends
of_ends (with_of {ts} s r) rest f = ends_mark mark.Of refl refl s (ts ++ rest)

of_complete : (m n : ℕ) (part : Read Exp) → Whole m n part → WholePat n (read_pat n) → {ts : List Tok} {cs : Clauses} → ReadsOf m ts cs
    → clauses_depth cs ≤ n → (rest : List Tok) → EndsOf rest → read_of n part (ts ++ rest) ≡ Some (cs, rest)
of_complete m n part whole pats without_of h rest f =
    ap (λ o. fork o (read_clauses (read_pattern_clause n part)) (λ us. Some (no_clauses, us)) rest) f.no_of
of_complete m n part whole pats (with_of {ts} {cs} s r) h rest f =
    clauses_complete m n one_pattern (read_pattern_clause n part) (pattern_clause_complete m n part whole pats) ts cs (r, h) rest f.closes

catch_complete : (m n : ℕ) (part : Read Exp) → Whole m n part → WholePat n (read_pat n) → {ts : List Tok} {hs : Catches} → ReadsCatch m ts hs
    → catches_depth hs ≤ n → (rest : List Tok) → EndsCatch rest → read_catch n part (ts ++ rest) ≡ Some (hs, rest)
catch_complete m n part whole pats without_catch h rest f =
    ap (λ o. fork o (λ us. items more_catches no_catches mark.Semicolon (read_handler n part) (length us) us) (λ us. Some (no_catches, us)) rest)
    f.no_catch
catch_complete m n part whole pats (with_catch {ts} {hs} s r) h rest f =
    listed_whole (BoundedHandler m n) Ends more_catches no_catches mark.Semicolon (read_handler n part) (λ us c b. handler_length b.0)
    (handler_complete m n part whole pats) (ends_mark mark.Semicolon refl refl) ts hs (handlers_listed m n r h)
    rest f.closes.ends f.closes.no_semicolon

-- `try`
try_parted : (ts us vs ws rest : List Tok) (t : Tok)
    → (ts ++ (us ++ (vs ++ (ws ++ t ∷ [])))) ++ rest ≡ ts ++ (us ++ (vs ++ (ws ++ t ∷ rest)))
try_parted ts us vs ws rest t =
    append_assoc ts (us ++ (vs ++ (ws ++ t ∷ []))) rest
    ∙ ap (λ x. ts ++ x) (append_assoc us (vs ++ (ws ++ t ∷ [])) rest
    ∙ ap (λ x. us ++ x) (append_assoc vs (ws ++ t ∷ []) rest
    ∙ ap (λ x. vs ++ x) (append_assoc ws (t ∷ []) rest)))

pub try_complete : (m n : ℕ) (part inside : Read Exp) → Whole m n part → WholePat n (read_pat n)
    → (o c : Place) {ts us vs ws : List Tok} {s : Seq} {cs : Clauses} {hs : Catches} {a : After}
    → ReadsBody m ts s → ReadsOf m us cs → ReadsCatch m vs hs → ReadsAfter m ws a → handles hs a ≡ true
    → depth (try o.line s cs hs a) ≤ suc n
    → (rest : List Tok) → read_marked m n part inside o mark.Try ((ts ++ (us ++ (vs ++ (ws ++ word c mark.End ∷ [])))) ++ rest)
    ≡ Some (try o.line s cs hs a, rest)
try_complete m n part inside whole pats o c {ts} {us} {vs} {ws} {s} {cs} {hs} {a} body clauses handlers last has h rest =
    let ends = after_ends last c rest in
    let calm = catch_ends handlers closing ends in
    ap (read_try n part o) (try_parted ts us vs ws rest (word c mark.End))
    ∙ (ap (λ p. onward p behind_body)
    (body_complete m n part whole ts s (body, omega (arith, h)) (us ++ (vs ++ closing)) (of_ends clauses (vs ++ closing) calm))
    ∙ (ap (λ p. onward p (behind_of s)) (of_complete m n part whole pats clauses (omega (arith, h)) (vs ++ closing) calm)
    ∙ (ap (λ p. onward p (behind_catch s cs)) (catch_complete m n part whole pats handlers (omega (arith, h)) closing ends)
    ∙ (ap (λ p. onward p (behind_end s cs hs))
    (closed_here mark.End (read_after part closing) a c rest (after_complete m n part whole last (omega (arith, h)) c rest))
    ∙ ap (λ b. provided b (λ ys. Some (try o.line s cs hs a, ys)) rest) has))))
  where
    closing : List Tok
    closing = ws ++ word c mark.End ∷ rest

    behind_end : Seq → Clauses → Catches → After → Read Exp
    behind_end b ds ks e xs = provided (handles ks e) (λ ys. Some (try o.line b ds ks e, ys)) xs

    behind_catch : Seq → Clauses → Catches → Read Exp
    behind_catch b ds ks xs = onward (closed mark.End (read_after part xs)) (behind_end b ds ks)

    behind_of : Seq → Clauses → Read Exp
    behind_of b ds xs = onward (read_catch n part xs) (behind_catch b ds)

    behind_body : Seq → Read Exp
    behind_body b xs = onward (read_of n part xs) (behind_of b)

-- `fun`
parameters_begin : {m j : ℕ} {ts : List Tok} {cs : Clauses} → ReadsClauses m (parameters j) ts cs → (rest : List Tok)
    → (us : List Tok) × (behind mark.ParenOpen (ts ++ rest) ≡ Some us)
parameters_begin (last_clause (parameters_clause o c r t)) rest = (_, refl)
parameters_begin (next_clause s (parameters_clause o c r t) rs) rest = (_, refl)

has_bracket : {m j : ℕ} {ts : List Tok} {cs : Clauses} → ReadsClauses m (parameters j) ts cs → 1 ≤ m
has_bracket (last_clause (parameters_clause o c r t)) = omega arith
has_bracket (next_clause s (parameters_clause o c r t) rs) = omega arith

fun_clauses_complete : (m n j : ℕ) (part : Read Exp) → Whole m n part → WholePat n (read_pat n)
    → (o c : Place) {ts : List Tok} {cs : Clauses} → ReadsClauses m (parameters j) ts cs → j ≤ most_parameters → clauses_depth cs ≤ n
    → (rest : List Tok) → read_fun_clauses m n part o (ts ++ word c mark.End ∷ rest) ≡ Some (fun_clauses o.line o.funs cs, rest)
fun_clauses_complete zero n j part whole pats o c r k h rest = let b = has_bracket r in absurd (omega (arith, b))
fun_clauses_complete (suc m) n j part whole pats o c {ts} {cs} r k h rest =
    ap (λ p. onward p behind_them)
    (closed_here mark.End (read_clauses (read_parameters_clause n part) (ts ++ word c mark.End ∷ rest)) cs c rest
    (clauses_complete (suc m) n (parameters j) (read_parameters_clause n part) (parameters_clause_complete (suc m) n j part whole pats) ts cs (r, h)
    (word c mark.End ∷ rest) (closes_mark mark.End refl refl refl c rest)))
    ∙ ap (λ b. provided b (λ vs. Some (fun_clauses o.line o.funs cs, vs)) rest) (is_fun_complete r k)
  where
    behind_them : Clauses → Read Exp
    behind_them ds us = provided (is_fun ds) (λ vs. Some (fun_clauses o.line o.funs ds, vs)) us

pub fun_complete : (m n : ℕ) (part inside : Read Exp) → Whole m n part → WholePat n (read_pat n)
    → (o c : Place) {j : ℕ} {ts : List Tok} {cs : Clauses} → ReadsClauses m (parameters j) ts cs → j ≤ most_parameters
    → depth (fun_clauses o.line o.funs cs) ≤ suc n
    → (rest : List Tok) → read_marked m n part inside o mark.Fun ((ts ++ word c mark.End ∷ []) ++ rest) ≡ Some (fun_clauses o.line o.funs cs, rest)
fun_complete m n part inside whole pats o c {j} {ts} {cs} r k h rest =
    let b = parameters_begin r (word c mark.End ∷ rest) in
    ap (read_fun m n part o) (append_assoc ts (word c mark.End ∷ []) rest)
    ∙ (ap (λ p. fork p (λ us. read_fun_clauses m n part o (ts ++ word c mark.End ∷ rest)) (read_fun_name o) (ts ++ word c mark.End ∷ rest)) b.1
    ∙ fun_clauses_complete m n j part whole pats o c r k (omega (arith, h)) rest)

pub fun_local_complete : (m n : ℕ) (part inside : Read Exp) → (o s d a : Place) (f : List ℕ) (j : ℕ) → j ≤ most_parameters
    → (rest : List Tok) → read_marked m n part inside o mark.Fun (tok s (Atom f) ∷ word d mark.Slash ∷ tok a (Int j) ∷ rest)
    ≡ Some (fun_local o.line o.funs f j, rest)
fun_local_complete m n part inside o s d a f j h rest =
    ap (λ b. made (fun_local o.line o.funs f) (if b then Some (j, rest) else None)) (le_is j most_parameters h)

pub fun_remote_complete : (m n : ℕ) (part inside : Read Exp) → (o r c s d a : Place) (g f : List ℕ) (j : ℕ) → j ≤ most_parameters
    → (rest : List Tok)
    → read_marked m n part inside o mark.Fun
    (tok r (Atom g) ∷ word c mark.Colon ∷ tok s (Atom f) ∷ word d mark.Slash ∷ tok a (Int j) ∷ rest)
    ≡ Some (fun_remote o.line g f j, rest)
fun_remote_complete m n part inside o r c s d a g f j h rest =
    ap (λ b. made (fun_remote o.line g f) (if b then Some (j, rest) else None)) (le_is j most_parameters h)
