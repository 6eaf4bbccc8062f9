-- What is read from tokens within their limits is a tree within bounds: each of its atoms is the atom of a token, or
-- the `throw` that isn't written; and the grammar counts the parameters.

use Rattle.std.proofs.Common.{ℕ, ◌≤◌, List, [], ◌∷◌, ◌++◌, length, refl, sym, subst, arith, codes}
use Rattle.std.proofs.Math.Utf8.{encode}
use Rattle.std.proofs.lemmas.Str.{chars-encodes}
use Rattle.edb_scan.specs.declared.lexeme.Mark.TheVariants as mark
use Rattle.edb_scan.specs.declared.lexeme.Placed.{Placed}
use Rattle.edb_syntax.specs.Forms.{with_last, call}
use Rattle.edb_syntax.specs.Patterns.{Pat, Pats}
use Rattle.edb_syntax.specs.Syntax.{Exp, Exps, Seq, After, Guards, ClauseTree, Clauses, CatchTree, Catches, QualifierTree, Qualifiers, FunctionTree, ModuleTree, atom, none, more}
use Rattle.edb_grammar.specs.Toks.{Tok, word, line_at}
use Rattle.edb_grammar.specs.Operators.{Infix, strict, andalso, orelse, sends, between}
use Rattle.edb_grammar.specs.Patterns.{ReadsVariable, a_variable, anything, ReadsPat, p_variable, p_integer, p_negative, p_character, p_atom, p_string, p_tuple, p_list, p_list_with_tail, p_both, ReadsPats, more_patterns, ReadsPatsOrNone, no_patterns, some_patterns}
use Rattle.edb_grammar.specs.Patterns as pattern
use Rattle.edb_grammar.specs.Expressions.{Head, guard_alone, parameters, named, ReadsClass, atom_class, variable_class, Reads, r_variable, r_atom, r_integer, r_character, r_string, r_float, r_list, r_list_with_tail, r_tuple, r_parentheses, r_comprehension, r_begin, r_case, r_if, r_receive, r_receive_after, r_try, r_fun, r_fun_local, r_fun_remote, r_call, r_remote_call, r_prefix, r_infix, r_match, r_catch, ReadsAll, one_expression, more_expressions, ReadsAllOrNone, no_expressions, some_expressions, ReadsBody, a_body, ReadsGuard, last_alternative, next_alternative, ReadsRest, without_guard, with_guard, ReadsClause, pattern_clause, guard_clause, parameters_clause, named_clause, ReadsClauses, last_clause, next_clause, ReadsClausesOrNone, without_clauses, some_clauses, ReadsOf, without_of, with_of, ReadsCatch, without_catch, with_catch, ReadsAfter, without_after, with_after, ReadsHandler, thrown, with_class, with_stack, ReadsHandlers, last_handler, next_handler, ReadsQualifier, a_generator, a_filter, ReadsQualifiers, last_qualifier, next_qualifier}
use Rattle.edb_grammar.specs.Expressions as expression
use Rattle.edb_grammar.specs.Forms.{ReadsForm, defines, a_function}
use Rattle.edb_grammar.specs.Files.{ReadsFile, a_file}
use Rattle.edb_verdict.specs.Verdicts.{IsModule, IsAccepted}
use Rattle.edb_verdict.specs.Bounds.{IsShort}
use Rattle.edb_verdict.specs.TreeBounds.{IsBoundedPattern, AreBoundedPatterns, IsBoundedExpression, AreBoundedExpressions, IsBoundedSequence, IsBoundedAfter, IsBoundedGuard, IsBoundedClause, AreBoundedClauses, IsBoundedCatch, AreBoundedCatches, IsBoundedQualifier, AreBoundedQualifiers, HasBoundedClauses, HasBoundedTrees}
use Rattle.edb_verdict.proofs.TokenBounds.{AreFitTokens, AreFitForms, AreFit, tokens_fit, forms_fit, front_fit, behind_fit, past_fit, functions_all}

-- the class that isn't written
throw_short : IsShort (codes "throw")
unfolding encode
throw_short = subst (λ (cs : List ℕ). length cs ≤ 255) (sym (chars-encodes (codes "throw") refl)) (omega arith)

-- what the grammar puts together
last_bounded : (es : Exps) (t : Exp) → AreBoundedExpressions es → IsBoundedExpression t → AreBoundedExpressions (with_last es t)
last_bounded none t all one = (one, tt)
last_bounded (more e es) t all one = (all.0, last_bounded es t all.1 one)

call_bounded : (l : ℕ) (f : Exp) (es : Exps) → IsBoundedExpression f → AreBoundedExpressions es → IsBoundedExpression (call l f es)
call_bounded l (atom k f) es one all = (one, all)
call_bounded l f es one all = (tt, (one, all))

between_bounded : (l : ℕ) (o : Infix) (a b : Exp) → IsBoundedExpression a → IsBoundedExpression b → IsBoundedExpression (between l o a b)
between_bounded l (strict o) a b p q = (tt, (p, (q, tt)))
between_bounded l andalso a b p q = (p, q)
between_bounded l orelse a b p q = (p, q)
between_bounded l sends a b p q = (tt, (p, (q, tt)))

-- the parameters of clauses that begin so
abbrev HasFew : Head → Type 0
HasFew expression.one_pattern = Unit {0}
HasFew guard_alone = Unit {0}
HasFew (parameters n) = n ≤ 255
HasFew (named f n) = n ≤ 255

variable_bounded : {t : Tok} {p : Pat} → ReadsVariable t p → IsBoundedPattern p
variable_bounded (a_variable is) = tt
variable_bounded anything = tt

mutual
  pattern_bounded : {k : ℕ} {ts : List Tok} {p : Pat} → ReadsPat k ts p → AreFit ts → IsBoundedPattern p
  pattern_bounded (p_variable r) fit = variable_bounded r
  pattern_bounded (p_integer few) fit = tt
  pattern_bounded (p_negative few) fit = tt
  pattern_bounded p_character fit = tt
  pattern_bounded p_atom fit = fit.0
  pattern_bounded (p_string r) fit = tt
  pattern_bounded (p_tuple o c r) fit = patterns_or_none_bounded r (front_fit _ _ fit.1)
  pattern_bounded (p_list o c r) fit = patterns_or_none_bounded r (front_fit _ _ fit.1)
  pattern_bounded (p_list_with_tail o b c r t) fit =
      (patterns_bounded r (front_fit _ _ fit.1), pattern_bounded t (front_fit _ _ (past_fit _ _ _ fit.1)))
  pattern_bounded (p_both s r t) fit = (pattern_bounded r (front_fit _ _ fit), pattern_bounded t (past_fit _ _ _ fit))

  patterns_bounded : {ts : List Tok} {ps : Pats} → ReadsPats ts ps → AreFit ts → AreBoundedPatterns ps
  patterns_bounded (pattern.one_pattern r) fit = (pattern_bounded r fit, tt)
  patterns_bounded (more_patterns s r rs) fit = (pattern_bounded r (front_fit _ _ fit), patterns_bounded rs (past_fit _ _ _ fit))

  patterns_or_none_bounded : {ts : List Tok} {ps : Pats} → ReadsPatsOrNone ts ps → AreFit ts → AreBoundedPatterns ps
  patterns_or_none_bounded no_patterns fit = tt
  patterns_or_none_bounded (some_patterns rs) fit = patterns_bounded rs fit

class_bounded : {t : Tok} {p : Pat} → ReadsClass t p → AreFit (t ∷ []) → IsBoundedPattern p
class_bounded atom_class fit = fit.0
class_bounded (variable_class r) fit = variable_bounded r

-- the parts of a `try`
four_fit : (ts us vs ws end : List Tok) → AreFit (ts ++ (us ++ (vs ++ (ws ++ end)))) → AreFit ts × AreFit us × AreFit vs × AreFit ws
four_fit ts us vs ws end fit =
    let f = behind_fit ts (us ++ (vs ++ (ws ++ end))) fit in
    let g = behind_fit us (vs ++ (ws ++ end)) f in
    let h = behind_fit vs (ws ++ end) g in
    (front_fit ts (us ++ (vs ++ (ws ++ end))) fit, front_fit us (vs ++ (ws ++ end)) f, front_fit vs (ws ++ end) g, front_fit ws end h)

mutual
  reads_bounded : {m k : ℕ} {ts : List Tok} {e : Exp} → Reads m k ts e → AreFit ts → IsBoundedExpression e
  reads_bounded r_variable fit = tt
  reads_bounded r_atom fit = fit.0
  reads_bounded (r_integer few) fit = tt
  reads_bounded r_character fit = tt
  reads_bounded (r_string r) fit = tt
  reads_bounded r_float fit = tt
  reads_bounded (r_list o c r) fit = (tt, all_or_none_bounded r (front_fit _ _ fit.1))
  reads_bounded (r_list_with_tail {es} {t = t} o b c r one) fit =
      (tt, last_bounded es t (all_bounded r (front_fit _ _ fit.1)) (reads_bounded one (front_fit _ _ (past_fit _ _ _ fit.1))))
  reads_bounded (r_tuple o c r) fit = (tt, all_or_none_bounded r (front_fit _ _ fit.1))
  reads_bounded (r_parentheses o c r) fit = reads_bounded r (front_fit _ _ fit.1)
  reads_bounded (r_comprehension o b c r qs) fit =
      (reads_bounded r (front_fit _ _ fit.1), qualifiers_bounded qs (front_fit _ _ (past_fit _ _ _ fit.1)))
  reads_bounded (r_begin o c r) fit = body_bounded r (front_fit _ _ fit.1)
  reads_bounded (r_case o f c r cs) fit =
      (reads_bounded r (front_fit _ _ fit.1), clauses_bounded cs tt (front_fit _ _ (past_fit _ _ _ fit.1)))
  reads_bounded (r_if o c cs) fit = clauses_bounded cs tt (front_fit _ _ fit.1)
  reads_bounded (r_receive o c cs) fit = clauses_bounded cs tt (front_fit _ _ fit.1)
  reads_bounded (r_receive_after o a w c cs r s) fit = (
    clauses_or_none_bounded cs tt (front_fit _ _ fit.1),
    reads_bounded r (front_fit _ _ (past_fit _ _ _ fit.1)),
    body_bounded s (front_fit _ _ (past_fit _ _ _ (past_fit _ _ _ fit.1))),
  )
  reads_bounded (r_try {ts = ts} {us = us} {vs = vs} {ws = ws} o c s cs hs a some) fit =
      let parts = four_fit ts us vs ws (word c mark.End ∷ []) fit.1 in
      (body_bounded s parts.0, of_bounded cs parts.1, catch_bounded hs parts.2, after_bounded a parts.3)
  reads_bounded (r_fun o c cs few) fit = clauses_bounded cs few (front_fit _ _ fit.1)
  reads_bounded (r_fun_local o s d a few) fit = (fit.1.0, few)
  reads_bounded (r_fun_remote o r c s d a few) fit = (fit.1.0, fit.1.1.1.0, few)
  reads_bounded (r_call {ts = ts} {f = f} {es = es} o c r rs) fit =
      call_bounded (line_at ts) f es (reads_bounded r (front_fit _ _ fit)) (all_or_none_bounded rs (front_fit _ _ (past_fit _ _ _ fit)))
  reads_bounded (r_remote_call d o c r f rs) fit = (
    tt,
    (
      reads_bounded r (front_fit _ _ fit),
      (
        reads_bounded f (front_fit _ _ (past_fit _ _ _ fit)),
        all_or_none_bounded rs (front_fit _ _ (past_fit _ _ _ (past_fit _ _ _ fit))),
      ),
    ),
  )
  reads_bounded (r_prefix x o s is few r) fit = (tt, (reads_bounded r fit.1, tt))
  reads_bounded (r_infix {ts = ts} {a = a} {b = b} x o s is i j r t) fit =
      between_bounded (line_at ts) o a b (reads_bounded r (front_fit _ _ fit)) (reads_bounded t (past_fit _ _ _ fit))
  reads_bounded (r_match s p r) fit = (pattern_bounded p (front_fit _ _ fit), reads_bounded r (past_fit _ _ _ fit))
  reads_bounded (r_catch s r) fit = reads_bounded r fit.1

  all_bounded : {m : ℕ} {ts : List Tok} {es : Exps} → ReadsAll m ts es → AreFit ts → AreBoundedExpressions es
  all_bounded (one_expression r) fit = (reads_bounded r fit, tt)
  all_bounded (more_expressions s r rs) fit = (reads_bounded r (front_fit _ _ fit), all_bounded rs (past_fit _ _ _ fit))

  all_or_none_bounded : {m : ℕ} {ts : List Tok} {es : Exps} → ReadsAllOrNone m ts es → AreFit ts → AreBoundedExpressions es
  all_or_none_bounded no_expressions fit = tt
  all_or_none_bounded (some_expressions rs) fit = all_bounded rs fit

  body_bounded : {m : ℕ} {ts : List Tok} {s : Seq} → ReadsBody m ts s → AreFit ts → IsBoundedSequence s
  body_bounded (a_body rs) fit = all_bounded rs fit

  guard_bounded : {m : ℕ} {ts : List Tok} {g : Guards} → ReadsGuard m ts g → AreFit ts → IsBoundedGuard g
  guard_bounded (last_alternative rs) fit = (all_bounded rs fit, tt)
  guard_bounded (next_alternative s rs r) fit = (all_bounded rs (front_fit _ _ fit), guard_bounded r (past_fit _ _ _ fit))

  rest_bounded : {m : ℕ} {ts : List Tok} {g : Guards} {s : Seq} → ReadsRest m ts g s → AreFit ts → IsBoundedGuard g × IsBoundedSequence s
  rest_bounded (without_guard w r) fit = (tt, body_bounded r fit.1)
  rest_bounded (with_guard h w g r) fit = (guard_bounded g (front_fit _ _ fit.1), body_bounded r (past_fit _ _ _ fit.1))

  clause_bounded : {m : ℕ} {h : Head} {ts : List Tok} {c : ClauseTree} → ReadsClause m h ts c → HasFew h → AreFit ts → IsBoundedClause c
  clause_bounded (pattern_clause p r) few fit =
      let one : 1 ≤ 255 = omega arith in
      let rest = rest_bounded r (behind_fit _ _ fit) in
      (one, (pattern_bounded p (front_fit _ _ fit), tt), rest.0, rest.1)
  clause_bounded (guard_clause w g r) few fit =
      (omega arith, tt, guard_bounded g (front_fit _ _ fit), body_bounded r (past_fit _ _ _ fit))
  clause_bounded (parameters_clause o c ps r) few fit =
      let rest = rest_bounded r (past_fit _ _ _ fit.1) in
      (few, patterns_or_none_bounded ps (front_fit _ _ fit.1), rest.0, rest.1)
  clause_bounded (named_clause s r) few fit = clause_bounded r few fit.1

  clauses_bounded : {m : ℕ} {h : Head} {ts : List Tok} {cs : Clauses} → ReadsClauses m h ts cs → HasFew h → AreFit ts → AreBoundedClauses cs
  clauses_bounded (last_clause r) few fit = (clause_bounded r few fit, tt)
  clauses_bounded (next_clause s r rs) few fit = (clause_bounded r few (front_fit _ _ fit), clauses_bounded rs few (past_fit _ _ _ fit))

  clauses_or_none_bounded : {m : ℕ} {h : Head} {ts : List Tok} {cs : Clauses} → ReadsClausesOrNone m h ts cs → HasFew h → AreFit ts → AreBoundedClauses cs
  clauses_or_none_bounded without_clauses few fit = tt
  clauses_or_none_bounded (some_clauses rs) few fit = clauses_bounded rs few fit

  of_bounded : {m : ℕ} {ts : List Tok} {cs : Clauses} → ReadsOf m ts cs → AreFit ts → AreBoundedClauses cs
  of_bounded without_of fit = tt
  of_bounded (with_of f rs) fit = clauses_bounded rs tt fit.1

  catch_bounded : {m : ℕ} {ts : List Tok} {hs : Catches} → ReadsCatch m ts hs → AreFit ts → AreBoundedCatches hs
  catch_bounded without_catch fit = tt
  catch_bounded (with_catch f rs) fit = handlers_bounded rs fit.1

  after_bounded : {m : ℕ} {ts : List Tok} {a : After} → ReadsAfter m ts a → AreFit ts → IsBoundedAfter a
  after_bounded without_after fit = tt
  after_bounded (with_after f r) fit = body_bounded r fit.1

  handler_bounded : {m : ℕ} {ts : List Tok} {h : CatchTree} → ReadsHandler m ts h → AreFit ts → IsBoundedCatch h
  handler_bounded (thrown p r) fit =
      let rest = rest_bounded r (behind_fit _ _ fit) in
      (throw_short, pattern_bounded p (front_fit _ _ fit), tt, rest.0, rest.1)
  handler_bounded (with_class d c p r) fit =
      let rest = rest_bounded r (behind_fit _ _ fit.1.1) in
      (class_bounded c (fit.0, tt), pattern_bounded p (front_fit _ _ fit.1.1), tt, rest.0, rest.1)
  handler_bounded (with_stack d e c p v r) fit =
      let rest = rest_bounded r (past_fit _ _ _ fit.1.1).1 in
      (class_bounded c (fit.0, tt), pattern_bounded p (front_fit _ _ fit.1.1), variable_bounded v, rest.0, rest.1)

  handlers_bounded : {m : ℕ} {ts : List Tok} {hs : Catches} → ReadsHandlers m ts hs → AreFit ts → AreBoundedCatches hs
  handlers_bounded (last_handler r) fit = (handler_bounded r fit, tt)
  handlers_bounded (next_handler s r rs) fit = (handler_bounded r (front_fit _ _ fit), handlers_bounded rs (past_fit _ _ _ fit))

  qualifier_bounded : {m : ℕ} {ts : List Tok} {q : QualifierTree} → ReadsQualifier m ts q → AreFit ts → IsBoundedQualifier q
  qualifier_bounded (a_generator s p r) fit = (pattern_bounded p (front_fit _ _ fit), reads_bounded r (past_fit _ _ _ fit))
  qualifier_bounded (a_filter r) fit = reads_bounded r fit

  qualifiers_bounded : {m : ℕ} {ts : List Tok} {qs : Qualifiers} → ReadsQualifiers m ts qs → AreFit ts → AreBoundedQualifiers qs
  qualifiers_bounded (last_qualifier r) fit = (qualifier_bounded r fit, tt)
  qualifiers_bounded (next_qualifier s r rs) fit = (qualifier_bounded r (front_fit _ _ fit), qualifiers_bounded rs (past_fit _ _ _ fit))

function_bounded : (ts : List Tok) (f : FunctionTree) → ReadsForm ts (defines f) → AreFit ts → HasBoundedClauses f
function_bounded _ _ (a_function d r few deep) fit = clauses_bounded r few (front_fit _ _ fit)

file_bounded : {tokens : List Placed} {m : ModuleTree} → ReadsFile tokens m → AreFitTokens tokens → HasBoundedTrees m
file_bounded (a_file {tokens} e r rs) fit =
    functions_all HasBoundedClauses function_bounded rs (subst AreFitForms e (forms_fit tokens fit)).1

-- a module by the grammar, whether it has faults or not
pub module_trees_bounded : (text : List ℕ) (m : ModuleTree) → IsModule text m → HasBoundedTrees m
module_trees_bounded text m is = file_bounded is.2 (tokens_fit text is.0 is.1)

pub accepted_trees_bounded : (text : List ℕ) (m : ModuleTree) → IsAccepted text m → HasBoundedTrees m
accepted_trees_bounded text m is = module_trees_bounded text m is.0
