-- The grammar of expressions: which tokens are which expression. Each rule says what a whole list of tokens is. A
-- node has the line of its first token, which may be a parenthesis round its first part; parentheses round the whole
-- leave no trace.

use Rattle.std.specs.Prelude.{◌≡◌, ℕ, suc, ◌≤◌, Bool, true, false, pos, List, [], ◌∷◌, ◌++◌, None, Some, codes}
use Rattle.edb_scan.specs.declared.lexeme.Mark.{Mark}
use Rattle.edb_scan.specs.declared.lexeme.Mark.TheVariants as mark
use Rattle.edb_scan.specs.declared.lexeme.Token.TheVariants.{Int, Float, Char, Atom, Var}
use Rattle.edb_lang.specs.declared.operators.UnaryOp.{UnaryOp}
use Rattle.edb_syntax.specs.Forms.{tuple, list, list_with_tail, unary, remote_call, call}
use Rattle.edb_syntax.specs.Patterns as pattern
use Rattle.edb_syntax.specs.Patterns.{Pat, Pats, pats_count}
use Rattle.edb_syntax.specs.Syntax.{Exp, Exps, Seq, After, Guards, ClauseTree, Clauses, CatchTree, Catches, QualifierTree, Qualifiers, int, atom, string, float, variable, match, catch, begin, case, if_clauses, receive, receive_after, try, fun_clauses, fun_local, fun_remote, comprehension, none, more, sequence, no_after, after, no_guard, alternative, clause, no_clauses, more_clauses, catch_clause, no_catches, more_catches, generator, filter, no_qualifiers, more_qualifiers}
use Rattle.edb_grammar.specs.Toks.{Place, Tok, tok, word, line_at, most_integer}
use Rattle.edb_grammar.specs.Strings.{ReadsString}
use Rattle.edb_grammar.specs.Operators.{Infix, prefix_of, infix_of, between, level, left, right}
use Rattle.edb_grammar.specs.Patterns.{ReadsVariable, ReadsPat, ReadsPatsOrNone}

-- the most parameters that a function or a fun has
abbrev pub most_parameters : ℕ
most_parameters = 255

-- What begins a clause: one pattern, as in `case`; a guard alone, as in `if`; so many parameters in parentheses, as
-- in a fun; or a name before them, as in a function.
pub data Head : Type 0 where
  one_pattern : Head
  guard_alone : Head
  parameters : ℕ → Head
  named : List ℕ → ℕ → Head

-- a `try` has clauses behind `catch`, or an `after`
abbrev pub handles : Catches → After → Bool
handles no_catches no_after = false
handles _ _ = true

-- the class of a clause behind `catch`: an atom or a variable
pub data ReadsClass : Tok → Pat → Type 0 where
  atom_class : {s : Place} {a : List ℕ} → ReadsClass (tok s (Atom a)) (pattern.atom s.line a)
  variable_class : {t : Tok} {p : Pat} → ReadsVariable t p → ReadsClass t p

-- In all of these, m is how many round brackets may be open at once among the tokens.
mutual
  -- `Reads m k ts e`: these tokens are the expression e; k is the level of what stands outermost
  pub data Reads : ℕ → ℕ → List Tok → Exp → Type 0 where
    -- a variable, also `_`
    r_variable : {m : ℕ} {s : Place} {x : List ℕ} → Reads m 0 (tok s (Var x) ∷ []) (variable s.line x)
    -- an atom
    r_atom : {m : ℕ} {s : Place} {a : List ℕ} → Reads m 0 (tok s (Atom a) ∷ []) (atom s.line a)
    -- an integer of 128 bits
    r_integer : {m : ℕ} {s : Place} {n : ℕ} → n ≤ most_integer → Reads m 0 (tok s (Int n) ∷ []) (int s.line (pos n))
    -- a character is the integer of its code point
    r_character : {m : ℕ} {s : Place} {c : ℕ} → Reads m 0 (tok s (Char c) ∷ []) (int s.line (pos c))
    -- a string, on the line of its first token
    r_string : {m : ℕ} {ts : List Tok} {cs : List ℕ} → ReadsString ts cs → Reads m 0 ts (string (line_at ts) cs)
    -- a number with a fraction
    r_float : {m : ℕ} {s : Place} → Reads m 0 (tok s Float ∷ []) (float s.line)
    -- `[A, B]`, also `[]`
    r_list : {m : ℕ} {ts : List Tok} {es : Exps} (o c : Place) → ReadsAllOrNone m ts es
        → Reads m 0 (word o mark.BracketOpen ∷ (ts ++ word c mark.BracketClose ∷ [])) (list o.line es)
    -- `[A, B | T]`
    r_list_with_tail : {m k : ℕ} {ts us : List Tok} {es : Exps} {t : Exp} (o b c : Place) → ReadsAll m ts es → Reads m k us t
        → Reads m 0 (word o mark.BracketOpen ∷ (ts ++ word b mark.Bar ∷ (us ++ word c mark.BracketClose ∷ []))) (list_with_tail o.line es t)
    -- `{A, B}`, also `{}`
    r_tuple : {m : ℕ} {ts : List Tok} {es : Exps} (o c : Place) → ReadsAllOrNone m ts es
        → Reads m 0 (word o mark.BraceOpen ∷ (ts ++ word c mark.BraceClose ∷ [])) (tuple o.line es)
    -- `(E)` is E
    r_parentheses : {m k : ℕ} {ts : List Tok} {e : Exp} (o c : Place) → Reads m k ts e
        → Reads (suc m) 0 (word o mark.ParenOpen ∷ (ts ++ word c mark.ParenClose ∷ [])) e
    -- `[E || Q, R]`
    r_comprehension : {m k : ℕ} {ts us : List Tok} {e : Exp} {qs : Qualifiers} (o b c : Place) → Reads m k ts e → ReadsQualifiers m us qs
        → Reads m 0 (word o mark.BracketOpen ∷ (ts ++ word b mark.BarBar ∷ (us ++ word c mark.BracketClose ∷ []))) (comprehension o.line e qs)
    -- `begin A, B end`
    r_begin : {m : ℕ} {ts : List Tok} {s : Seq} (o c : Place) → ReadsBody m ts s
        → Reads m 0 (word o mark.Begin ∷ (ts ++ word c mark.End ∷ [])) (begin o.line s)
    -- `case E of .. end`
    r_case : {m k : ℕ} {ts us : List Tok} {e : Exp} {cs : Clauses} (o f c : Place) → Reads m k ts e → ReadsClauses m one_pattern us cs
        → Reads m 0 (word o mark.Case ∷ (ts ++ word f mark.Of ∷ (us ++ word c mark.End ∷ []))) (case o.line e cs)
    -- `if .. end`
    r_if : {m : ℕ} {ts : List Tok} {cs : Clauses} (o c : Place) → ReadsClauses m guard_alone ts cs
        → Reads m 0 (word o mark.If ∷ (ts ++ word c mark.End ∷ [])) (if_clauses o.line cs)
    -- `receive .. end`, which has a clause
    r_receive : {m : ℕ} {ts : List Tok} {cs : Clauses} (o c : Place) → ReadsClauses m one_pattern ts cs
        → Reads m 0 (word o mark.Receive ∷ (ts ++ word c mark.End ∷ [])) (receive o.line cs)
    -- `receive .. after E -> .. end`, with clauses or none
    r_receive_after : {m k : ℕ} {ts us vs : List Tok} {cs : Clauses} {e : Exp} {s : Seq} (o a w c : Place)
        → ReadsClausesOrNone m one_pattern ts cs → Reads m k us e → ReadsBody m vs s
        → Reads m 0 (word o mark.Receive ∷ (ts ++ word a mark.After ∷ (us ++ word w mark.Arrow ∷ (vs ++ word c mark.End ∷ []))))
        (receive_after o.line cs e s)
    -- `try .. of .. catch .. after .. end`
    r_try : {m : ℕ} {ts us vs ws : List Tok} {s : Seq} {cs : Clauses} {hs : Catches} {a : After} (o c : Place)
        → ReadsBody m ts s → ReadsOf m us cs → ReadsCatch m vs hs → ReadsAfter m ws a → handles hs a ≡ true
        → Reads m 0 (word o mark.Try ∷ (ts ++ (us ++ (vs ++ (ws ++ word c mark.End ∷ []))))) (try o.line s cs hs a)
    -- `fun (..) -> ..; (..) -> .. end`: its place is how many `fun`s stand before it
    r_fun : {m n : ℕ} {ts : List Tok} {cs : Clauses} (o c : Place) → ReadsClauses m (parameters n) ts cs → n ≤ most_parameters
        → Reads m 0 (word o mark.Fun ∷ (ts ++ word c mark.End ∷ [])) (fun_clauses o.line o.funs cs)
    -- `fun f/2`
    r_fun_local : {m n : ℕ} {f : List ℕ} (o s d a : Place) → n ≤ most_parameters
        → Reads m 0 (word o mark.Fun ∷ tok s (Atom f) ∷ word d mark.Slash ∷ tok a (Int n) ∷ []) (fun_local o.line o.funs f n)
    -- `fun m:f/2`
    r_fun_remote : {m n : ℕ} {h f : List ℕ} (o r c s d a : Place) → n ≤ most_parameters
        → Reads m 0 (word o mark.Fun ∷ tok r (Atom h) ∷ word c mark.Colon ∷ tok s (Atom f) ∷ word d mark.Slash ∷ tok a (Int n) ∷ [])
        (fun_remote o.line h f n)
    -- `F(A, B)`: what is called stands by itself
    r_call : {m : ℕ} {ts us : List Tok} {f : Exp} {es : Exps} (o c : Place) → Reads (suc m) 0 ts f → ReadsAllOrNone m us es
        → Reads (suc m) 1 (ts ++ word o mark.ParenOpen ∷ (us ++ word c mark.ParenClose ∷ [])) (call (line_at ts) f es)
    -- `M:F(A, B)`: the module and the name stand by themselves
    r_remote_call : {m : ℕ} {ts us vs : List Tok} {h f : Exp} {es : Exps} (d o c : Place)
        → Reads (suc m) 0 ts h → Reads (suc m) 0 us f → ReadsAllOrNone m vs es
        → Reads (suc m) 1 (ts ++ word d mark.Colon ∷ (us ++ word o mark.ParenOpen ∷ (vs ++ word c mark.ParenClose ∷ [])))
        (remote_call (line_at ts) h f es)
    -- an operator before its operand, which may have another one before it
    r_prefix : {m k : ℕ} {ts : List Tok} {e : Exp} (x : Mark) (o : UnaryOp) (s : Place) → prefix_of x ≡ Some o → k ≤ 2 → Reads m k ts e
        → Reads m 2 (word s x ∷ ts) (unary s.line o e)
    -- an operator between operands that are no looser than it lets them be
    r_infix : {m j k : ℕ} {ts us : List Tok} {a b : Exp} (x : Mark) (o : Infix) (s : Place) → infix_of x ≡ Some o
        → j ≤ left o → k ≤ right o → Reads m j ts a → Reads m k us b
        → Reads m (level o) (ts ++ word s x ∷ us) (between (line_at ts) o a b)
    -- `P = E`: P has no `=` of its own, and E is any expression, so that matches group to the right
    r_match : {m k : ℕ} {ts us : List Tok} {p : Pat} {e : Exp} (s : Place) → ReadsPat 0 ts p → Reads m k us e
        → Reads m 9 (ts ++ word s mark.Match ∷ us) (match (line_at ts) p e)
    -- `catch E`: E is any expression
    r_catch : {m k : ℕ} {ts : List Tok} {e : Exp} (s : Place) → Reads m k ts e
        → Reads m 10 (word s mark.Catch ∷ ts) (catch s.line e)

  -- expressions with commas between them, one at least
  pub data ReadsAll : ℕ → List Tok → Exps → Type 0 where
    one_expression : {m k : ℕ} {ts : List Tok} {e : Exp} → Reads m k ts e → ReadsAll m ts (more e none)
    more_expressions : {m k : ℕ} {ts us : List Tok} {e : Exp} {es : Exps} (s : Place) → Reads m k ts e → ReadsAll m us es
        → ReadsAll m (ts ++ word s mark.Comma ∷ us) (more e es)

  -- expressions, or none
  pub data ReadsAllOrNone : ℕ → List Tok → Exps → Type 0 where
    no_expressions : {m : ℕ} → ReadsAllOrNone m [] none
    some_expressions : {m : ℕ} {ts : List Tok} {es : Exps} → ReadsAll m ts es → ReadsAllOrNone m ts es

  -- a body is expressions with commas between them
  pub data ReadsBody : ℕ → List Tok → Seq → Type 0 where
    a_body : {m : ℕ} {ts : List Tok} {e : Exp} {es : Exps} → ReadsAll m ts (more e es) → ReadsBody m ts (sequence e es)

  -- the alternatives of a guard, with `;` between them, one at least; the tests of each, with commas between them
  pub data ReadsGuard : ℕ → List Tok → Guards → Type 0 where
    last_alternative : {m : ℕ} {ts : List Tok} {es : Exps} → ReadsAll m ts es → ReadsGuard m ts (alternative es no_guard)
    next_alternative : {m : ℕ} {ts us : List Tok} {es : Exps} {g : Guards} (s : Place) → ReadsAll m ts es → ReadsGuard m us g
        → ReadsGuard m (ts ++ word s mark.Semicolon ∷ us) (alternative es g)

  -- what stands behind the patterns of a clause: `-> ..`, or `when .. -> ..`
  pub data ReadsRest : ℕ → List Tok → Guards → Seq → Type 0 where
    without_guard : {m : ℕ} {ts : List Tok} {s : Seq} (w : Place) → ReadsBody m ts s
        → ReadsRest m (word w mark.Arrow ∷ ts) no_guard s
    with_guard : {m : ℕ} {ts us : List Tok} {g : Guards} {s : Seq} (h w : Place) → ReadsGuard m ts g → ReadsBody m us s
        → ReadsRest m (word h mark.When ∷ (ts ++ word w mark.Arrow ∷ us)) g s

  -- a clause that begins so
  pub data ReadsClause : ℕ → Head → List Tok → ClauseTree → Type 0 where
    -- a pattern
    pattern_clause : {m k : ℕ} {ts us : List Tok} {p : Pat} {g : Guards} {s : Seq} → ReadsPat k ts p → ReadsRest m us g s
        → ReadsClause m one_pattern (ts ++ us) (clause (pattern.more p pattern.none) g s)
    -- a guard
    guard_clause : {m : ℕ} {ts us : List Tok} {g : Guards} {s : Seq} (w : Place) → ReadsGuard m ts g → ReadsBody m us s
        → ReadsClause m guard_alone (ts ++ word w mark.Arrow ∷ us) (clause pattern.none g s)
    -- patterns in parentheses
    parameters_clause : {m : ℕ} {ts us : List Tok} {ps : Pats} {g : Guards} {s : Seq} (o c : Place)
        → ReadsPatsOrNone ts ps → ReadsRest (suc m) us g s
        → ReadsClause (suc m) (parameters (pats_count ps)) (word o mark.ParenOpen ∷ (ts ++ word c mark.ParenClose ∷ us)) (clause ps g s)
    -- a name, and patterns in parentheses
    named_clause : {m n : ℕ} {f : List ℕ} {ts : List Tok} {c : ClauseTree} (s : Place) → ReadsClause m (parameters n) ts c
        → ReadsClause m (named f n) (tok s (Atom f) ∷ ts) c

  -- Clauses with `;` between them, one at least. All have the same head: those of a fun as many parameters, those of
  -- a function the same name too.
  pub data ReadsClauses : ℕ → Head → List Tok → Clauses → Type 0 where
    last_clause : {m : ℕ} {h : Head} {ts : List Tok} {c : ClauseTree} → ReadsClause m h ts c
        → ReadsClauses m h ts (more_clauses c no_clauses)
    next_clause : {m : ℕ} {h : Head} {ts us : List Tok} {c : ClauseTree} {cs : Clauses} (s : Place)
        → ReadsClause m h ts c → ReadsClauses m h us cs
        → ReadsClauses m h (ts ++ word s mark.Semicolon ∷ us) (more_clauses c cs)

  -- clauses, or none
  pub data ReadsClausesOrNone : ℕ → Head → List Tok → Clauses → Type 0 where
    without_clauses : {m : ℕ} {h : Head} → ReadsClausesOrNone m h [] no_clauses
    some_clauses : {m : ℕ} {h : Head} {ts : List Tok} {cs : Clauses} → ReadsClauses m h ts cs → ReadsClausesOrNone m h ts cs

  -- the part of a `try` from `of` on, where there is one
  pub data ReadsOf : ℕ → List Tok → Clauses → Type 0 where
    without_of : {m : ℕ} → ReadsOf m [] no_clauses
    with_of : {m : ℕ} {ts : List Tok} {cs : Clauses} (f : Place) → ReadsClauses m one_pattern ts cs
        → ReadsOf m (word f mark.Of ∷ ts) cs

  -- the part from `catch` on
  pub data ReadsCatch : ℕ → List Tok → Catches → Type 0 where
    without_catch : {m : ℕ} → ReadsCatch m [] no_catches
    with_catch : {m : ℕ} {ts : List Tok} {hs : Catches} (f : Place) → ReadsHandlers m ts hs
        → ReadsCatch m (word f mark.Catch ∷ ts) hs

  -- the part from `after` on
  pub data ReadsAfter : ℕ → List Tok → After → Type 0 where
    without_after : {m : ℕ} → ReadsAfter m [] no_after
    with_after : {m : ℕ} {ts : List Tok} {s : Seq} (f : Place) → ReadsBody m ts s
        → ReadsAfter m (word f mark.After ∷ ts) (after s)

  -- a clause behind `catch`
  pub data ReadsHandler : ℕ → List Tok → CatchTree → Type 0 where
    -- `P -> ..`: the class is `throw`
    thrown : {m k : ℕ} {ts us : List Tok} {p : Pat} {g : Guards} {s : Seq} → ReadsPat k ts p → ReadsRest m us g s
        → ReadsHandler m (ts ++ us) (catch_clause (pattern.atom (line_at ts) (codes "throw")) p None g s)
    -- `C:P -> ..`
    with_class : {m k : ℕ} {t : Tok} {ts us : List Tok} {c p : Pat} {g : Guards} {s : Seq} (d : Place)
        → ReadsClass t c → ReadsPat k ts p → ReadsRest m us g s
        → ReadsHandler m (t ∷ word d mark.Colon ∷ (ts ++ us)) (catch_clause c p None g s)
    -- `C:P:V -> ..`
    with_stack : {m k : ℕ} {t v : Tok} {ts us : List Tok} {c p x : Pat} {g : Guards} {s : Seq} (d e : Place)
        → ReadsClass t c → ReadsPat k ts p → ReadsVariable v x → ReadsRest m us g s
        → ReadsHandler m (t ∷ word d mark.Colon ∷ (ts ++ word e mark.Colon ∷ v ∷ us)) (catch_clause c p (Some x) g s)

  -- clauses behind `catch` with `;` between them, one at least
  pub data ReadsHandlers : ℕ → List Tok → Catches → Type 0 where
    last_handler : {m : ℕ} {ts : List Tok} {h : CatchTree} → ReadsHandler m ts h
        → ReadsHandlers m ts (more_catches h no_catches)
    next_handler : {m : ℕ} {ts us : List Tok} {h : CatchTree} {hs : Catches} (s : Place)
        → ReadsHandler m ts h → ReadsHandlers m us hs
        → ReadsHandlers m (ts ++ word s mark.Semicolon ∷ us) (more_catches h hs)

  -- a qualifier of a comprehension: `P <- E`, or a filter
  pub data ReadsQualifier : ℕ → List Tok → QualifierTree → Type 0 where
    a_generator : {m j k : ℕ} {ts us : List Tok} {p : Pat} {e : Exp} (s : Place) → ReadsPat j ts p → Reads m k us e
        → ReadsQualifier m (ts ++ word s mark.From ∷ us) (generator p e)
    a_filter : {m k : ℕ} {ts : List Tok} {e : Exp} → Reads m k ts e → ReadsQualifier m ts (filter e)

  -- qualifiers with commas between them, one at least
  pub data ReadsQualifiers : ℕ → List Tok → Qualifiers → Type 0 where
    last_qualifier : {m : ℕ} {ts : List Tok} {q : QualifierTree} → ReadsQualifier m ts q
        → ReadsQualifiers m ts (more_qualifiers q no_qualifiers)
    next_qualifier : {m : ℕ} {ts us : List Tok} {q : QualifierTree} {qs : Qualifiers} (s : Place)
        → ReadsQualifier m ts q → ReadsQualifiers m us qs
        → ReadsQualifiers m (ts ++ word s mark.Comma ∷ us) (more_qualifiers q qs)
