-- Where the operand that stands first ends, found by its brackets alone: so the `=` of a match and the `<-` of a
-- generator stand nowhere but behind a pattern.

use Rattle.std.proofs.Common.{◌≡◌, ℕ, zero, suc, ◌≤◌, Bool, true, false, List, [], ◌∷◌, ◌++◌, Option, Some, None, refl, sym, ◌∙◌, ap, append_assoc, arith}
use Rattle.edb_scan.specs.declared.lexeme.Mark.{Mark}
use Rattle.edb_scan.specs.declared.lexeme.Mark.TheVariants as mark
use Rattle.edb_scan.specs.declared.lexeme.Token.TheVariants as token
use Rattle.edb_scan.specs.declared.lexeme.Token.TheVariants.{Int, Char, Atom, Var, Str}
use Rattle.edb_lang.specs.declared.operators.UnaryOp.{UnaryOp}
use Rattle.edb_syntax.specs.Patterns.{Pat, Pats}
use Rattle.edb_syntax.specs.Depths.{depth}
use Rattle.edb_syntax.specs.Syntax.{Exp, Exps, Seq, After, Guards, ClauseTree, Clauses, CatchTree, Catches, QualifierTree, Qualifiers}
use Rattle.edb_grammar.specs.Toks.{Place, Tok, tok, word}
use Rattle.edb_grammar.specs.Marks.{same_mark}
use Rattle.edb_grammar.specs.Strings.{ReadsString, last_string, next_string}
use Rattle.edb_grammar.specs.Operators.{Infix, prefix_of, infix_of}
use Rattle.edb_grammar.specs.Patterns as pattern
use Rattle.edb_grammar.specs.Patterns.{ReadsVariable, a_variable, anything, ReadsPat, ReadsPats, ReadsPatsOrNone, p_variable, p_integer, p_negative, p_character, p_atom, p_string, p_tuple, p_list, p_list_with_tail, p_both, more_patterns, no_patterns, some_patterns}
use Rattle.edb_grammar.specs.Expressions.{Head, ReadsClass, atom_class, variable_class, Reads, ReadsAll, ReadsAllOrNone, ReadsBody, ReadsGuard, ReadsRest, ReadsClause, ReadsClauses, ReadsClausesOrNone, ReadsOf, ReadsCatch, ReadsAfter, ReadsHandler, ReadsHandlers, ReadsQualifier, ReadsQualifiers, r_variable, r_atom, r_integer, r_character, r_string, r_float, r_list, r_list_with_tail, r_tuple, r_parentheses, r_comprehension, r_begin, r_case, r_if, r_receive, r_receive_after, r_try, r_fun, r_fun_local, r_fun_remote, r_call, r_remote_call, r_prefix, r_infix, r_match, r_catch, one_expression, more_expressions, no_expressions, some_expressions, a_body, last_alternative, next_alternative, without_guard, with_guard, pattern_clause, guard_clause, parameters_clause, named_clause, last_clause, next_clause, without_clauses, some_clauses, without_of, with_of, without_catch, with_catch, without_after, with_after, thrown, with_class, with_stack, last_handler, next_handler, a_generator, a_filter, last_qualifier, next_qualifier}
use Rattle.edb_grammar.specs.Reading.{behind, closed, behind_text}
use Rattle.edb_grammar.specs.PatternReading.{read_pat, read_single}
use Rattle.edb_grammar.proofs.MarkLaws.{same_mark_is}
use Rattle.edb_grammar.proofs.Parts.{some_is, none_no}
use Rattle.edb_grammar.proofs.Follow.{begins_text, Calm}
use Rattle.edb_grammar.proofs.PatternSound.{AnyPat, pat_sound, single_pat_sound}
use Rattle.edb_grammar.proofs.ClauseSound.{closed_sound}
use Rattle.edb_grammar.proofs.PatternComplete.{string_whole}
use Rattle.edb_grammar.proofs.ListComplete.{not_behind}
use Rattle.edb_grammar.proofs.ClimbComplete.{bounds}

-- what a token is to the brackets `[` and `{`
pub data Weight : Type 0 where
  opens : Weight
  closes : Weight
  plain : Weight

abbrev pub weight_of : Mark → Weight
weight_of mark.BracketOpen = opens
weight_of mark.BraceOpen = opens
weight_of mark.BracketClose = closes
weight_of mark.BraceClose = closes
weight_of _ = plain

abbrev pub weight : Tok → Weight
weight (tok s (token.Mark x)) = weight_of x
weight _ = plain

-- how many are open behind a token, where one more than n were
abbrev pub still_open : ℕ → Weight → ℕ
still_open n opens = suc (suc n)
still_open n closes = n
still_open n plain = suc n

-- the tokens behind the bracket that closes the outermost of n open ones
abbrev pub skip : List Tok → ℕ → List Tok
skip ts zero = ts
skip [] (suc n) = []
skip (t ∷ ts) (suc n) = skip ts (still_open n (weight t))

-- these tokens close what they open; where n + 1 were open before them, f n are open behind them
record Leaves (f : ℕ → ℕ) (ts : List Tok) : Type 0 where
  falls : (n : ℕ) (rest : List Tok) → skip (ts ++ rest) (suc n) ≡ skip rest (f n)

abbrev Balanced : List Tok → Type 0
Balanced ts = Leaves (λ n. suc n) ts

abbrev Closing : List Tok → Type 0
Closing ts = Leaves (λ n. n) ts

nothing : Balanced []
nothing = record { falls = λ n rest. refl }

after : {f : ℕ → ℕ} {t : Tok} {ts : List Tok} → weight t ≡ plain → Leaves f ts → Leaves f (t ∷ ts)
after {ts} h b = record { falls = λ n rest. ap (λ w. skip (ts ++ rest) (still_open n w)) h ∙ b.falls n rest }

joins : {f : ℕ → ℕ} {ts us : List Tok} → Balanced ts → Leaves f us → Leaves f (ts ++ us)
joins {ts} {us} b c =
    record { falls = λ n rest. ap (λ v. skip v (suc n)) (append_assoc ts us rest) ∙ (b.falls n (us ++ rest) ∙ c.falls n rest) }

-- tokens, a token, and more of them
parts : {f : ℕ → ℕ} {ts us : List Tok} (t : Tok) → Balanced ts → weight t ≡ plain → Leaves f us → Leaves f (ts ++ t ∷ us)
parts t b h c = joins b (after h c)

closing : {t : Tok} → weight t ≡ closes → Closing (t ∷ [])
closing h = record { falls = λ n rest. ap (λ w. skip rest (still_open n w)) h }

opened : {t : Tok} {ts : List Tok} → weight t ≡ opens → Closing ts → Balanced (t ∷ ts)
opened {ts} h c = record { falls = λ n rest. ap (λ w. skip (ts ++ rest) (still_open n w)) h ∙ c.falls (suc n) rest }

-- tokens and the last one
ended : {ts : List Tok} (t : Tok) → Balanced ts → weight t ≡ plain → Balanced (ts ++ t ∷ [])
ended t b h = parts t b h nothing

shut : {ts : List Tok} (t : Tok) → Balanced ts → weight t ≡ closes → Closing (ts ++ t ∷ [])
shut t b h = joins b (closing h)

-- what each rule reads is balanced
string_balanced : {ts : List Tok} {cs : List ℕ} → ReadsString ts cs → Balanced ts
string_balanced last_string = after refl nothing
string_balanced (next_string s cs r) = after refl (string_balanced r)

variable_plain : {t : Tok} {p : Pat} → ReadsVariable t p → weight t ≡ plain
variable_plain (a_variable h) = refl
variable_plain anything = refl

class_plain : {t : Tok} {p : Pat} → ReadsClass t p → weight t ≡ plain
class_plain atom_class = refl
class_plain (variable_class r) = variable_plain r

prefix_plain : (x : Mark) (o : UnaryOp) → prefix_of x ≡ Some o → weight_of x ≡ plain
prefix_plain mark.BracketOpen o h = absurd (none_no o h)
prefix_plain mark.BraceOpen o h = absurd (none_no o h)
prefix_plain mark.BracketClose o h = absurd (none_no o h)
prefix_plain mark.BraceClose o h = absurd (none_no o h)
prefix_plain _ o h = refl

infix_plain : (x : Mark) (o : Infix) → infix_of x ≡ Some o → weight_of x ≡ plain
infix_plain mark.BracketOpen o h = absurd (none_no o h)
infix_plain mark.BraceOpen o h = absurd (none_no o h)
infix_plain mark.BracketClose o h = absurd (none_no o h)
infix_plain mark.BraceClose o h = absurd (none_no o h)
infix_plain _ o h = refl

mutual
  pat_balanced : {k : ℕ} {ts : List Tok} {p : Pat} → ReadsPat k ts p → Balanced ts
  pat_balanced (p_variable r) = after (variable_plain r) nothing
  pat_balanced (p_integer small) = after refl nothing
  pat_balanced (p_negative small) = after refl (after refl nothing)
  pat_balanced p_character = after refl nothing
  pat_balanced p_atom = after refl nothing
  pat_balanced (p_string r) = string_balanced r
  pat_balanced (p_tuple o c r) = opened refl (shut _ (pats_or_none_balanced r) refl)
  pat_balanced (p_list o c r) = opened refl (shut _ (pats_or_none_balanced r) refl)
  pat_balanced (p_list_with_tail o b c r t) = opened refl (parts _ (pats_balanced r) refl (shut _ (pat_balanced t) refl))
  pat_balanced (p_both s r t) = parts _ (pat_balanced r) refl (pat_balanced t)

  pats_balanced : {ts : List Tok} {ps : Pats} → ReadsPats ts ps → Balanced ts
  pats_balanced (pattern.one_pattern r) = pat_balanced r
  pats_balanced (more_patterns s r rs) = parts _ (pat_balanced r) refl (pats_balanced rs)

  pats_or_none_balanced : {ts : List Tok} {ps : Pats} → ReadsPatsOrNone ts ps → Balanced ts
  pats_or_none_balanced no_patterns = nothing
  pats_or_none_balanced (some_patterns rs) = pats_balanced rs

mutual
  reads_balanced : {m k : ℕ} {ts : List Tok} {e : Exp} → Reads m k ts e → Balanced ts
  reads_balanced r_variable = after refl nothing
  reads_balanced r_atom = after refl nothing
  reads_balanced (r_integer small) = after refl nothing
  reads_balanced r_character = after refl nothing
  reads_balanced (r_string r) = string_balanced r
  reads_balanced r_float = after refl nothing
  reads_balanced (r_list o c r) = opened refl (shut _ (all_or_none_balanced r) refl)
  reads_balanced (r_list_with_tail o b c r t) = opened refl (parts _ (all_balanced r) refl (shut _ (reads_balanced t) refl))
  reads_balanced (r_tuple o c r) = opened refl (shut _ (all_or_none_balanced r) refl)
  reads_balanced (r_parentheses o c r) = after refl (ended _ (reads_balanced r) refl)
  reads_balanced (r_comprehension o b c r qs) = opened refl (parts _ (reads_balanced r) refl (shut _ (qualifiers_balanced qs) refl))
  reads_balanced (r_begin o c r) = after refl (ended _ (body_balanced r) refl)
  reads_balanced (r_case o f c r cs) = after refl (parts _ (reads_balanced r) refl (ended _ (clauses_balanced cs) refl))
  reads_balanced (r_if o c cs) = after refl (ended _ (clauses_balanced cs) refl)
  reads_balanced (r_receive o c cs) = after refl (ended _ (clauses_balanced cs) refl)
  reads_balanced (r_receive_after o a w c cs r s) =
      after refl (parts _ (clauses_or_none_balanced cs) refl (parts _ (reads_balanced r) refl (ended _ (body_balanced s) refl)))
  reads_balanced (r_try o c s cs hs a h) =
      after refl (joins (body_balanced s) (joins (of_balanced cs) (joins (catch_balanced hs) (ended _ (after_balanced a) refl))))
  reads_balanced (r_fun o c cs h) = after refl (ended _ (clauses_balanced cs) refl)
  reads_balanced (r_fun_local o s d a h) = after refl (after refl (after refl (after refl nothing)))
  reads_balanced (r_fun_remote o r c s d a h) = after refl (after refl (after refl (after refl (after refl (after refl nothing)))))
  reads_balanced (r_call o c r rs) = parts _ (reads_balanced r) refl (ended _ (all_or_none_balanced rs) refl)
  reads_balanced (r_remote_call d o c r f rs) =
      parts _ (reads_balanced r) refl (parts _ (reads_balanced f) refl (ended _ (all_or_none_balanced rs) refl))
  reads_balanced (r_prefix x o s h l r) = after (prefix_plain x o h) (reads_balanced r)
  reads_balanced (r_infix x o s h j k a b) = parts _ (reads_balanced a) (infix_plain x o h) (reads_balanced b)
  reads_balanced (r_match s p r) = parts _ (pat_balanced p) refl (reads_balanced r)
  reads_balanced (r_catch s r) = after refl (reads_balanced r)

  all_balanced : {m : ℕ} {ts : List Tok} {es : Exps} → ReadsAll m ts es → Balanced ts
  all_balanced (one_expression r) = reads_balanced r
  all_balanced (more_expressions s r rs) = parts _ (reads_balanced r) refl (all_balanced rs)

  all_or_none_balanced : {m : ℕ} {ts : List Tok} {es : Exps} → ReadsAllOrNone m ts es → Balanced ts
  all_or_none_balanced no_expressions = nothing
  all_or_none_balanced (some_expressions rs) = all_balanced rs

  body_balanced : {m : ℕ} {ts : List Tok} {s : Seq} → ReadsBody m ts s → Balanced ts
  body_balanced (a_body rs) = all_balanced rs

  guard_balanced : {m : ℕ} {ts : List Tok} {g : Guards} → ReadsGuard m ts g → Balanced ts
  guard_balanced (last_alternative rs) = all_balanced rs
  guard_balanced (next_alternative s rs g) = parts _ (all_balanced rs) refl (guard_balanced g)

  rest_balanced : {m : ℕ} {ts : List Tok} {g : Guards} {s : Seq} → ReadsRest m ts g s → Balanced ts
  rest_balanced (without_guard w s) = after refl (body_balanced s)
  rest_balanced (with_guard h w g s) = after refl (parts _ (guard_balanced g) refl (body_balanced s))

  clause_balanced : {m : ℕ} {h : Head} {ts : List Tok} {c : ClauseTree} → ReadsClause m h ts c → Balanced ts
  clause_balanced (pattern_clause p r) = joins (pat_balanced p) (rest_balanced r)
  clause_balanced (guard_clause w g s) = parts _ (guard_balanced g) refl (body_balanced s)
  clause_balanced (parameters_clause o c ps r) = after refl (parts _ (pats_or_none_balanced ps) refl (rest_balanced r))
  clause_balanced (named_clause s c) = after refl (clause_balanced c)

  clauses_balanced : {m : ℕ} {h : Head} {ts : List Tok} {cs : Clauses} → ReadsClauses m h ts cs → Balanced ts
  clauses_balanced (last_clause c) = clause_balanced c
  clauses_balanced (next_clause s c cs) = parts _ (clause_balanced c) refl (clauses_balanced cs)

  clauses_or_none_balanced : {m : ℕ} {h : Head} {ts : List Tok} {cs : Clauses} → ReadsClausesOrNone m h ts cs → Balanced ts
  clauses_or_none_balanced without_clauses = nothing
  clauses_or_none_balanced (some_clauses cs) = clauses_balanced cs

  of_balanced : {m : ℕ} {ts : List Tok} {cs : Clauses} → ReadsOf m ts cs → Balanced ts
  of_balanced without_of = nothing
  of_balanced (with_of f cs) = after refl (clauses_balanced cs)

  catch_balanced : {m : ℕ} {ts : List Tok} {hs : Catches} → ReadsCatch m ts hs → Balanced ts
  catch_balanced without_catch = nothing
  catch_balanced (with_catch f hs) = after refl (handlers_balanced hs)

  after_balanced : {m : ℕ} {ts : List Tok} {a : After} → ReadsAfter m ts a → Balanced ts
  after_balanced without_after = nothing
  after_balanced (with_after f s) = after refl (body_balanced s)

  handler_balanced : {m : ℕ} {ts : List Tok} {h : CatchTree} → ReadsHandler m ts h → Balanced ts
  handler_balanced (thrown p r) = joins (pat_balanced p) (rest_balanced r)
  handler_balanced (with_class d c p r) = after (class_plain c) (after refl (joins (pat_balanced p) (rest_balanced r)))
  handler_balanced (with_stack d e c p v r) =
      after (class_plain c) (after refl (parts _ (pat_balanced p) refl (after (variable_plain v) (rest_balanced r))))

  handlers_balanced : {m : ℕ} {ts : List Tok} {hs : Catches} → ReadsHandlers m ts hs → Balanced ts
  handlers_balanced (last_handler h) = handler_balanced h
  handlers_balanced (next_handler s h hs) = parts _ (handler_balanced h) refl (handlers_balanced hs)

  qualifier_balanced : {m : ℕ} {ts : List Tok} {q : QualifierTree} → ReadsQualifier m ts q → Balanced ts
  qualifier_balanced (a_generator s p r) = parts _ (pat_balanced p) refl (reads_balanced r)
  qualifier_balanced (a_filter r) = reads_balanced r

  qualifiers_balanced : {m : ℕ} {ts : List Tok} {qs : Qualifiers} → ReadsQualifiers m ts qs → Balanced ts
  qualifiers_balanced (last_qualifier q) = qualifier_balanced q
  qualifiers_balanced (next_qualifier s q qs) = parts _ (qualifier_balanced q) refl (qualifiers_balanced qs)

-- the tokens behind an operand that a pattern could be: a token, strings, what is in `[` or `{`, or `-` and an integer
abbrev pub past_integer : List Tok → List Tok
past_integer (tok s (Int n) ∷ ts) = ts
past_integer _ = []

abbrev pub past_mark : Mark → List Tok → List Tok
past_mark mark.Minus ts = past_integer ts
past_mark mark.BracketOpen ts = skip ts 1
past_mark mark.BraceOpen ts = skip ts 1
past_mark _ ts = []

abbrev pub past : List Tok → List Tok
past (tok s (Var x) ∷ ts) = ts
past (tok s (Atom a) ∷ ts) = ts
past (tok s (Int n) ∷ ts) = ts
past (tok s (Char c) ∷ ts) = ts
past (tok s (Str cs) ∷ ts) = behind_text ts
past (tok s (token.Mark x) ∷ ts) = past_mark x ts
past _ = []

string_past : {ts : List Tok} {cs : List ℕ} → ReadsString ts cs → (rest : List Tok) → begins_text rest ≡ false → past (ts ++ rest) ≡ rest
string_past r rest h = let t = string_whole r rest h in ap (λ v. past (v ++ rest)) t.parted ∙ t.behind

shut_past : {ts : List Tok} (t : Tok) → Balanced ts → weight t ≡ closes → (rest : List Tok) → skip ((ts ++ t ∷ []) ++ rest) 1 ≡ rest
shut_past t b h rest = (shut t b h).falls 0 rest

-- it stands behind a pattern
pat_past : {ts : List Tok} {p : Pat} → ReadsPat zero ts p → (rest : List Tok) → begins_text rest ≡ false → past (ts ++ rest) ≡ rest
pat_past (p_variable (a_variable h)) rest e = refl
pat_past (p_variable anything) rest e = refl
pat_past (p_integer small) rest e = refl
pat_past (p_negative small) rest e = refl
pat_past p_character rest e = refl
pat_past p_atom rest e = refl
pat_past (p_string r) rest e = string_past r rest e
pat_past (p_tuple o c r) rest e = shut_past _ (pats_or_none_balanced r) refl rest
pat_past (p_list o c r) rest e = shut_past _ (pats_or_none_balanced r) refl rest
pat_past (p_list_with_tail o b c r t) rest e = (parts _ (pats_balanced r) refl (shut _ (pat_balanced t) refl)).falls 0 rest

-- a derivation that isn't that of a match
abbrev pub Unmatched : {m k : ℕ} {ts : List Tok} {e : Exp} → Reads m k ts e → Type 0
Unmatched (r_match s p r) = ⊥
Unmatched _ = Unit {0}

pub unmatched : {m k : ℕ} {ts : List Tok} {e : Exp} (r : Reads m k ts e) → k ≤ 8 → Unmatched r
unmatched (r_match s p r) h = absurd (omega (arith, h))
unmatched _ h = tt

-- a mark with which no operand goes on
pub record Apart (x : Mark) : Type 0 where
  pub paren : same_mark x mark.ParenOpen ≡ false
  pub colon : same_mark x mark.Colon ≡ false
  pub no_infix : infix_of x ≡ None

-- two marks of which a table has one alone are different
pub differs : {A : Type 0} (table : Mark → Option A) (x y : Mark) (a : A) → table x ≡ None → table y ≡ Some a → same_mark x y ≡ false
differs table x y a e f = by (same_mark x y) refl
  where
    by : (b : Bool) → same_mark x y ≡ b → same_mark x y ≡ false
    by true g = absurd (none_no a (sym e ∙ (ap table (same_mark_is x y g) ∙ f)))
    by false g = g

integer_stops : (x : Mark) (ts : List Tok) → behind x (past ts) ≡ None → behind x (past_integer ts) ≡ None
integer_stops x (tok s (Int n) ∷ ts) e = e
integer_stops x _ e = refl

prefix_stops : (x y : Mark) (o : UnaryOp) → prefix_of y ≡ Some o → (ts : List Tok) → behind x (past ts) ≡ None → behind x (past_mark y ts) ≡ None
prefix_stops x mark.Minus o h ts e = integer_stops x ts e
prefix_stops x mark.BracketOpen o h ts e = absurd (none_no o h)
prefix_stops x mark.BraceOpen o h ts e = absurd (none_no o h)
prefix_stops x _ o h ts e = refl

-- A mark that goes on with no operand, and doesn't stand behind an expression that is no match, doesn't stand behind its
-- first operand either.
pub stops : (x : Mark) → Apart x → {m k : ℕ} {ts : List Tok} {e : Exp} (r : Reads m k ts e) → Unmatched r
    → (rest : List Tok) → begins_text rest ≡ false → behind x rest ≡ None → behind x (past (ts ++ rest)) ≡ None
stops x a r_variable u rest e f = f
stops x a r_atom u rest e f = f
stops x a (r_integer small) u rest e f = f
stops x a r_character u rest e f = f
stops x a (r_string r) u rest e f = ap (behind x) (string_past r rest e) ∙ f
stops x a r_float u rest e f = refl
stops x a (r_list o c r) u rest e f = ap (behind x) (shut_past _ (all_or_none_balanced r) refl rest) ∙ f
stops x a (r_list_with_tail o b c r t) u rest e f =
    ap (behind x) ((parts _ (all_balanced r) refl (shut _ (reads_balanced t) refl)).falls 0 rest) ∙ f
stops x a (r_tuple o c r) u rest e f = ap (behind x) (shut_past _ (all_or_none_balanced r) refl rest) ∙ f
stops x a (r_comprehension o b c r qs) u rest e f =
    ap (behind x) ((parts _ (reads_balanced r) refl (shut _ (qualifiers_balanced qs) refl)).falls 0 rest) ∙ f
stops x a (r_call {ts} {us} o c r rs) u rest e f =
    ap (λ v. behind x (past v)) (append_assoc ts (word o mark.ParenOpen ∷ (us ++ word c mark.ParenClose ∷ [])) rest)
    ∙ stops x a r (unmatched r (omega arith)) ((word o mark.ParenOpen ∷ (us ++ word c mark.ParenClose ∷ [])) ++ rest) refl
    (not_behind x mark.ParenOpen o _ a.paren)
stops x a (r_remote_call {ts} {us} {vs} d o c r g rs) u rest e f =
    ap (λ v. behind x (past v)) (append_assoc ts (word d mark.Colon ∷ (us ++ word o mark.ParenOpen ∷ (vs ++ word c mark.ParenClose ∷ []))) rest)
    ∙ stops x a r (unmatched r (omega arith)) ((word d mark.Colon ∷ (us ++ word o mark.ParenOpen ∷ (vs ++ word c mark.ParenClose ∷ []))) ++ rest) refl
    (not_behind x mark.Colon d _ a.colon)
stops x a (r_prefix {ts} y o s h l r) u rest e f = prefix_stops x y o h (ts ++ rest) (stops x a r (unmatched r (omega (arith, l))) rest e f)
stops x a (r_infix {ts} {us} y o s h j l r t) u rest e f =
    ap (λ v. behind x (past v)) (append_assoc ts (word s y ∷ us) rest)
    ∙ stops x a r (unmatched r (let b = (bounds o).left_most in omega (arith, j, b))) ((word s y ∷ us) ++ rest) refl
    (not_behind x y s _ (differs infix_of x y o a.no_infix h))
stops x a (r_match s p r) u rest e f = absurd u
stops x a _ u rest e f = refl

-- what stands behind the first operand where it is `=`: the expression is a match, of which this is the right side
match_behind : {m k : ℕ} {ts : List Tok} {e : Exp} → Reads m k ts e → (rest : List Tok) → Calm 10 rest
    → (us : List Tok) → behind mark.Match (past (ts ++ rest)) ≡ Some us
    → (j : ℕ) × (vs : List Tok) × (d : Exp) × Reads m j vs d × (vs ++ rest ≡ us)
match_behind (r_match {k} {ts} {us = vs} {p} {e = d} s q r) rest calm us h = (
  k,
  vs,
  d,
  r,
  some_is (vs ++ rest) us (sym (ap (λ v. behind mark.Match (past v)) (append_assoc ts (word s mark.Match ∷ vs) rest)
      ∙ ap (behind mark.Match) (pat_past q ((word s mark.Match ∷ vs) ++ rest) refl)) ∙ h),
)
match_behind r rest calm us h =
    absurd (none_no us (sym (stops mark.Match (record { paren = refl; colon = refl; no_infix = refl }) r tt rest calm.call.no_text calm.no_match) ∙ h))

-- no `<-` stands there
no_from : {m k : ℕ} {ts : List Tok} {e : Exp} → Reads m k ts e → (rest : List Tok) → Calm 10 rest → behind mark.From rest ≡ None
    → behind mark.From (past (ts ++ rest)) ≡ None
no_from (r_match {ts} {us} s q r) rest calm f =
    ap (λ v. behind mark.From (past v)) (append_assoc ts (word s mark.Match ∷ us) rest)
    ∙ ap (behind mark.From) (pat_past q ((word s mark.Match ∷ us) ++ rest) refl)
no_from r rest calm f = stops mark.From (record { paren = refl; colon = refl; no_infix = refl }) r tt rest calm.call.no_text f

-- so no expression begins with a pattern and `<-`
pattern_from : {j : ℕ} {used : List Tok} {p : Pat} → ReadsPat j used p → {m k : ℕ} {ts : List Tok} {e : Exp} → Reads m k ts e
    → (rest : List Tok) → Calm 10 rest → behind mark.From rest ≡ None
    → (s : Place) (us : List Tok) → ts ++ rest ≡ used ++ word s mark.From ∷ us → ⊥
pattern_from (p_both {ts = vs} {us = ws} t q w) {m} {ts} r rest calm f s us h =
    let b = match_behind r rest calm (ws ++ word s mark.From ∷ us)
    (ap (λ v. behind mark.Match (past v)) (h ∙ append_assoc vs (word t mark.Match ∷ ws) (word s mark.From ∷ us))
    ∙ ap (behind mark.Match) (pat_past q ((word t mark.Match ∷ ws) ++ word s mark.From ∷ us) refl)) in
    pattern_from w b.3 rest calm f s us b.4
pattern_from q {m} {ts} r rest calm f s us h =
    none_no us (sym (no_from r rest calm f) ∙ (ap (λ v. behind mark.From (past v)) h ∙ ap (behind mark.From) (pat_past q (word s mark.From ∷ us) refl)))

-- no generator is read where a filter stands
pub no_generator : (m n k : ℕ) (ts : List Tok) (e : Exp) → Reads m k ts e → depth e ≤ n → (rest : List Tok) → Calm 10 rest
    → behind mark.From rest ≡ None → closed mark.From (read_pat n (ts ++ rest)) ≡ None
no_generator m n k ts e r shallow rest calm f = by (closed mark.From (read_pat n (ts ++ rest))) refl
  where
    by : (o : Option (Pat × List Tok)) → closed mark.From (read_pat n (ts ++ rest)) ≡ o → closed mark.From (read_pat n (ts ++ rest)) ≡ None
    by None h = h
    by (Some q) h =
        let c = closed_sound AnyPat mark.From (read_pat n) (pat_sound n) (ts ++ rest) q h in
        absurd (pattern_from c.reads.1 r rest calm f c.place q.1 c.parted)

-- no match is read where `=` doesn't stand behind the first operand
pub no_match : (n : ℕ) (ts : List Tok) → behind mark.Match (past ts) ≡ None → closed mark.Match (read_single n ts) ≡ None
no_match n ts e = by (closed mark.Match (read_single n ts)) refl
  where
    by : (o : Option (Pat × List Tok)) → closed mark.Match (read_single n ts) ≡ o → closed mark.Match (read_single n ts) ≡ None
    by None h = h
    by (Some q) h =
        let c = closed_sound (ReadsPat 0) mark.Match (read_single n) (single_pat_sound n) ts q h in
        absurd (none_no q.1 (sym e ∙ (ap (λ v. behind mark.Match (past v)) c.parted
        ∙ ap (behind mark.Match) (pat_past c.reads (word c.place mark.Match ∷ q.1) refl))))
