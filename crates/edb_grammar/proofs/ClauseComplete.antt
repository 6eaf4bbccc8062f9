-- Bodies, guards and clauses by the grammar are read whole from the front of the tokens, where their expressions are.

use Rattle.std.proofs.Common.{◌≡◌, ℕ, suc, ◌≤◌, true, false, ◌==◌, ◌&&◌, nat_le, List, ◌∷◌, ◌++◌, length, length-append, Some, None, refl, ◌∙◌, ap, append_assoc, arith}
use Rattle.std.proofs.lemmas.Bool.Decides.{nat_tests}
use Rattle.std.proofs.lemmas.Cmp.{nat_list_eq_equiv}
use Rattle.edb_scan.specs.declared.lexeme.Mark.{Mark}
use Rattle.edb_scan.specs.declared.lexeme.Mark.TheVariants as mark
use Rattle.edb_lang.specs.TermText.{same_name}
use Rattle.edb_syntax.specs.Depths.{depth, depths, sequence_depth, guard_depth, clause_depth, clauses_depth, patterns_depth}
use Rattle.edb_syntax.specs.Patterns as pattern
use Rattle.edb_syntax.specs.Patterns.{Pat, Pats, pats_count}
use Rattle.edb_syntax.specs.Syntax.{Exp, Exps, Seq, Guards, ClauseTree, Clauses, none, more, no_guard, alternative, clause, no_clauses, more_clauses}
use Rattle.edb_grammar.specs.Toks.{Place, Tok, word}
use Rattle.edb_grammar.specs.Patterns.{ReadsPatsOrNone, no_patterns, some_patterns}
use Rattle.edb_grammar.specs.Expressions.{Head, Reads, ReadsAll, ReadsAllOrNone, ReadsBody, ReadsGuard, ReadsRest, ReadsClause, ReadsClauses, one_pattern, guard_alone, parameters, named, most_parameters, one_expression, more_expressions, no_expressions, some_expressions, a_body, last_alternative, next_alternative, without_guard, with_guard, pattern_clause, guard_clause, parameters_clause, named_clause, last_clause, next_clause}
use Rattle.edb_grammar.specs.Reading.{Read, behind, closed, onward, made, fork, provided}
use Rattle.edb_grammar.specs.PatternReading.{read_pats, read_pat}
use Rattle.edb_grammar.specs.ExpressionReading.{read_all, read_until, seq_of, read_body, read_guard, guarded, read_rest, clause_of, read_pattern_clause, read_guard_clause, read_parameters, read_parameters_clause, read_clauses, clause_arity, first_arity, all_have, is_fun}
use Rattle.edb_grammar.specs.FormReading.{read_named_clause}
use Rattle.edb_grammar.proofs.Follow.{CalmPat, Calm, Whole, WholePat}
use Rattle.edb_grammar.proofs.PatternComplete.{le_is, behind_here, pats_begin, pats_whole}
use Rattle.edb_grammar.proofs.ListComplete.{WholeBy, Listed, last_listed, next_listed, listed_whole, closed_here, onward_part, onward_closed, calm_mark, Ends, ends_mark, Closes, closes_mark, may_begin, all_begin, exp_length, all_length}

-- what the rules read, at most n deep
abbrev pub Bounded : ℕ → ℕ → List Tok → Exp → Type 0
Bounded m n ts e = (k : ℕ) × Reads m k ts e × (depth e ≤ n)

abbrev pub BoundedAll : ℕ → ℕ → List Tok → Exps → Type 0
BoundedAll m n ts es = ReadsAll m ts es × (depths es ≤ n)

abbrev pub BoundedClause : ℕ → ℕ → Head → List Tok → ClauseTree → Type 0
BoundedClause m n head ts c = ReadsClause m head ts c × (clause_depth c ≤ n)

abbrev pub BoundedClauses : ℕ → ℕ → Head → List Tok → Clauses → Type 0
BoundedClauses m n head ts cs = ReadsClauses m head ts cs × (clauses_depth cs ≤ n)

-- no generator stands where an expression is a filter
abbrev pub NoGenerator : ℕ → ℕ → Type 0
NoGenerator m n =
    (k : ℕ) (ts : List Tok) (e : Exp) → Reads m k ts e → depth e ≤ n → (rest : List Tok) → Calm 10 rest → behind mark.From rest ≡ None
    → closed mark.From (read_pat n (ts ++ rest)) ≡ None

-- expressions with commas between them
all_listed : (m n : ℕ) {ts : List Tok} {es : Exps} → ReadsAll m ts es → depths es ≤ n → Listed (Bounded m n) more none mark.Comma ts es
all_listed m n (one_expression {k} {ts} {e} r) h = last_listed ts e (k, r, omega (arith, h))
all_listed m n (more_expressions {k} {ts} {us} {e} {es} s r rs) h =
    next_listed s ts us e es (k, r, omega (arith, h)) (all_listed m n rs (omega (arith, h)))

pub all_complete : (m n : ℕ) (part : Read Exp) → Whole m n part → WholeBy (BoundedAll m n) Ends (read_all part)
all_complete m n part whole ts es r rest f =
    listed_whole (Bounded m n) (Calm 10) more none mark.Comma part (λ us e b. exp_length b.1) (λ us e b. whole b.0 us e b.1 b.2)
    (calm_mark mark.Comma refl) ts es (all_listed m n r.0 r.1) rest f.calm f.no_comma

pub until_complete : (m n : ℕ) (x : Mark) (part : Read Exp) → Whole m n part → may_begin x ≡ false
    → ((s : Place) (us : List Tok) → Ends (word s x ∷ us))
    → {ts : List Tok} {es : Exps} → ReadsAllOrNone m ts es → depths es ≤ n
    → (c : Place) (rest : List Tok) → read_until x part (ts ++ word c x ∷ rest) ≡ Some (es, rest)
until_complete m n x part whole b ends no_expressions h c rest =
    ap (λ o. fork o (λ us. Some (none, us)) (λ us. closed x (read_all part us)) (word c x ∷ rest)) (behind_here x c rest)
until_complete m n x part whole b ends (some_expressions {ts} {es} r) h c rest =
    ap (λ o. fork o (λ us. Some (none, us)) (λ us. closed x (read_all part us)) (ts ++ word c x ∷ rest)) (all_begin r x b (word c x ∷ rest))
    ∙ closed_here x (read_all part (ts ++ word c x ∷ rest)) es c rest
    (all_complete m n part whole ts es (r, h) (word c x ∷ rest) (ends c rest))

abbrev pub BoundedBody : ℕ → ℕ → List Tok → Seq → Type 0
BoundedBody m n ts s = ReadsBody m ts s × (sequence_depth s ≤ n)

pub body_complete : (m n : ℕ) (part : Read Exp) → Whole m n part → WholeBy (BoundedBody m n) Ends (read_body part)
body_complete m n part whole ts s (a_body {e} {es} r, h) rest f = ap seq_of (all_complete m n part whole ts (more e es) (r, h) rest f)

-- guards
abbrev pub BoundedGuard : ℕ → ℕ → List Tok → Guards → Type 0
BoundedGuard m n ts g = ReadsGuard m ts g × (guard_depth g ≤ n)

guard_listed : (m n : ℕ) {ts : List Tok} {g : Guards} → ReadsGuard m ts g → guard_depth g ≤ n
    → Listed (BoundedAll m n) alternative no_guard mark.Semicolon ts g
guard_listed m n (last_alternative {ts} {es} r) h = last_listed ts es (r, omega (arith, h))
guard_listed m n (next_alternative {ts} {us} {es} {g} s r rs) h =
    next_listed s ts us es g (r, omega (arith, h)) (guard_listed m n rs (omega (arith, h)))

pub guard_complete : (m n : ℕ) (part : Read Exp) → Whole m n part → WholeBy (BoundedGuard m n) Closes (read_guard part)
guard_complete m n part whole ts g r rest f =
    listed_whole (BoundedAll m n) Ends alternative no_guard mark.Semicolon (read_all part) (λ us es b. all_length b.0)
    (all_complete m n part whole) (ends_mark mark.Semicolon refl refl) ts g (guard_listed m n r.0 r.1) rest f.ends f.no_semicolon

-- what stands behind the patterns of a clause
pub rest_calm : {m : ℕ} {us : List Tok} {g : Guards} {s : Seq} → ReadsRest m us g s → (rest : List Tok) → CalmPat (us ++ rest)
rest_calm (without_guard w b) rest = record { no_text = refl; no_match = refl }
rest_calm (with_guard h w g b) rest = record { no_text = refl; no_match = refl }

pub rest_length : {m : ℕ} {us : List Tok} {g : Guards} {s : Seq} → ReadsRest m us g s → 1 ≤ length us
rest_length (without_guard w b) = omega arith
rest_length (with_guard h w g b) = omega arith

pub rest_complete : (m n : ℕ) (part : Read Exp) → Whole m n part → {us : List Tok} {g : Guards} {s : Seq} → ReadsRest m us g s
    → guard_depth g ≤ n → sequence_depth s ≤ n → (rest : List Tok) → Ends rest → read_rest part (us ++ rest) ≡ Some ((g, s), rest)
rest_complete m n part whole (without_guard {ts} {s} w b) h k rest f =
    ap (made (guarded no_guard)) (body_complete m n part whole ts s (b, k) rest f)
rest_complete m n part whole (with_guard {ts} {us} {g} {s} t w r b) h k rest f =
    onward_closed mark.Arrow (read_guard part) (λ c vs. made (guarded c) (read_body part vs)) ts us rest w g (Some ((g, s), rest))
    (guard_complete m n part whole ts g (r, h) (word w mark.Arrow ∷ (us ++ rest)) (closes_mark mark.Arrow refl refl refl w (us ++ rest)))
    (ap (made (guarded g)) (body_complete m n part whole us s (b, k) rest f))

-- clauses that begin with a pattern
pub pattern_clause_complete : (m n : ℕ) (part : Read Exp) → Whole m n part → WholePat n (read_pat n)
    → WholeBy (BoundedClause m n one_pattern) Ends (read_pattern_clause n part)
pattern_clause_complete m n part whole pats ts c (pattern_clause {k} {ts = vs} {us} {p} {g} {s} r t, h) rest f =
    onward_part (read_pat n) (λ q ws. made (clause_of (pattern.more q pattern.none)) (read_rest part ws)) vs us rest p (Some (c, rest))
    (pats k vs p r (omega (arith, h)) (us ++ rest) (rest_calm t rest))
    (ap (made (clause_of (pattern.more p pattern.none))) (rest_complete m n part whole t (omega (arith, h)) (omega (arith, h)) rest f))

-- clauses that are a guard alone
pub guard_clause_complete : (m n : ℕ) (part : Read Exp) → Whole m n part → WholeBy (BoundedClause m n guard_alone) Ends (read_guard_clause part)
guard_clause_complete m n part whole ts c (guard_clause {ts = vs} {us} {g} {s} w r b, h) rest f =
    onward_closed mark.Arrow (read_guard part) (λ a ws. made (clause pattern.none a) (read_body part ws)) vs us rest w g (Some (c, rest))
    (guard_complete m n part whole vs g (r, omega (arith, h)) (word w mark.Arrow ∷ (us ++ rest))
    (closes_mark mark.Arrow refl refl refl w (us ++ rest)))
    (ap (made (clause pattern.none g)) (body_complete m n part whole us s (b, omega (arith, h)) rest f))

-- clauses that begin with parameters in parentheses
parameters_complete : (n : ℕ) → WholePat n (read_pat n) → {ts : List Tok} {ps : Pats} → ReadsPatsOrNone ts ps → patterns_depth ps ≤ n
    → (c : Place) (rest : List Tok) → read_parameters n (ts ++ word c mark.ParenClose ∷ rest) ≡ Some (ps, rest)
parameters_complete n pats no_patterns h c rest = refl
parameters_complete n pats (some_patterns {ts} {ps} r) h c rest =
    ap (λ o. fork o (λ us. Some (pattern.none, us)) (λ us. closed mark.ParenClose (read_pats (read_pat n) us)) closing)
    (pats_begin r mark.ParenClose (record { minus = refl; brace = refl; bracket = refl }) (word c mark.ParenClose ∷ rest))
    ∙ closed_here mark.ParenClose (read_pats (read_pat n) closing) ps c rest
    (pats_whole n (read_pat n) pats ts ps r h (word c mark.ParenClose ∷ rest) (record { no_text = refl; no_match = refl }) refl)
  where
    closing : List Tok
    closing = ts ++ word c mark.ParenClose ∷ rest

pub parameters_clause_complete : (m n j : ℕ) (part : Read Exp) → Whole m n part → WholePat n (read_pat n)
    → WholeBy (BoundedClause m n (parameters j)) Ends (read_parameters_clause n part)
parameters_clause_complete m n j part whole pats ts c (parameters_clause {m = i} {ts = vs} {us} {ps} {g} {s} o d r t, h) rest f =
    ap (λ v. onward (read_parameters n v) behind_them) (append_assoc vs (word d mark.ParenClose ∷ us) rest)
    ∙ (ap (λ v. onward v behind_them) (parameters_complete n pats r (omega (arith, h)) d (us ++ rest))
    ∙ ap (made (clause_of ps)) (rest_complete (suc i) n part whole t (omega (arith, h)) (omega (arith, h)) rest f))
  where
    behind_them : Pats → Read ClauseTree
    behind_them qs ws = made (clause_of qs) (read_rest part ws)

-- clauses that begin with a name before them
same_name_itself : (f : List ℕ) → same_name f f ≡ true
same_name_itself f = nat_list_eq_equiv.refl f

named_clause_complete : (m n j : ℕ) (f : List ℕ) (part : Read Exp) → Whole m n part → WholePat n (read_pat n)
    → WholeBy (BoundedClause m n (named f j)) Ends (read_named_clause f n part)
named_clause_complete m n j f part whole pats ts c (named_clause {ts = us} s r, h) rest k =
    ap (λ b. provided b (read_parameters_clause n part) (us ++ rest)) (same_name_itself f)
    ∙ parameters_clause_complete m n j part whole pats us c (r, h) rest k

-- lists of clauses
clause_length : {m : ℕ} {head : Head} {ts : List Tok} {c : ClauseTree} → ReadsClause m head ts c → 1 ≤ length ts
clause_length (pattern_clause {ts} {us} r t) = let n = rest_length t in let j = length-append ts us in omega (arith, n, j)
clause_length (guard_clause {ts} {us} w r b) = let j = length-append ts (word w mark.Arrow ∷ us) in omega (arith, j)
clause_length (parameters_clause o c r t) = omega arith
clause_length (named_clause s r) = omega arith

clauses_listed : (m n : ℕ) (head : Head) {ts : List Tok} {cs : Clauses} → ReadsClauses m head ts cs → clauses_depth cs ≤ n
    → Listed (BoundedClause m n head) more_clauses no_clauses mark.Semicolon ts cs
clauses_listed m n head (last_clause {ts} {c} r) h = last_listed ts c (r, omega (arith, h))
clauses_listed m n head (next_clause {ts} {us} {c} {cs} s r rs) h =
    next_listed s ts us c cs (r, omega (arith, h)) (clauses_listed m n head rs (omega (arith, h)))

pub clauses_complete : (m n : ℕ) (head : Head) (one : Read ClauseTree) → WholeBy (BoundedClause m n head) Ends one
    → WholeBy (BoundedClauses m n head) Closes (read_clauses one)
clauses_complete m n head one whole ts cs r rest f =
    listed_whole (BoundedClause m n head) Ends more_clauses no_clauses mark.Semicolon one (λ us c b. clause_length b.0) whole
    (ends_mark mark.Semicolon refl refl) ts cs (clauses_listed m n head r.0 r.1) rest f.ends f.no_semicolon

-- the clauses of a function of this name
pub named_clauses_complete : (m n j : ℕ) (f : List ℕ) (part : Read Exp) → Whole m n part → WholePat n (read_pat n)
    → WholeBy (BoundedClauses m n (named f j)) Closes (read_clauses (read_named_clause f n part))
named_clauses_complete m n j f part whole pats =
    clauses_complete m n (named f j) (read_named_clause f n part) (named_clause_complete m n j f part whole pats)

-- clauses with one head have as many parameters each as it says
abbrev pub head_arity : Head → ℕ
head_arity one_pattern = 1
head_arity guard_alone = 0
head_arity (parameters n) = n
head_arity (named f n) = n

clause_has : {m : ℕ} {head : Head} {ts : List Tok} {c : ClauseTree} → ReadsClause m head ts c → clause_arity c ≡ head_arity head
clause_has (pattern_clause r t) = refl
clause_has (guard_clause w r b) = refl
clause_has (parameters_clause o d r t) = refl
clause_has (named_clause s r) = clause_has r

same_number : (a b : ℕ) → a ≡ b → a == b ≡ true
same_number a b h = grind (arith, nat_tests, h)

clauses_have : {m : ℕ} {head : Head} {ts : List Tok} {cs : Clauses} → ReadsClauses m head ts cs → all_have (head_arity head) cs ≡ true
clauses_have {head} (last_clause {c} r) = λ i. same_number (clause_arity c) (head_arity head) (clause_has r) i && true
clauses_have {head} (next_clause {c} s r rs) = λ i. same_number (clause_arity c) (head_arity head) (clause_has r) i && clauses_have rs i

pub first_has : {m : ℕ} {head : Head} {ts : List Tok} {cs : Clauses} → ReadsClauses m head ts cs → first_arity cs ≡ head_arity head
first_has (last_clause r) = clause_has r
first_has (next_clause s r rs) = clause_has r

pub is_fun_complete : {m : ℕ} {head : Head} {ts : List Tok} {cs : Clauses} → ReadsClauses m head ts cs → head_arity head ≤ most_parameters
    → is_fun cs ≡ true
is_fun_complete {head} {cs} rs h =
    ap (λ n. all_have n cs && nat_le n most_parameters) (first_has rs)
    ∙ λ i. clauses_have rs i && le_is (head_arity head) most_parameters h i
