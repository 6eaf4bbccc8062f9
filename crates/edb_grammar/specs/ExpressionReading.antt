-- Reading expressions: the descent, with budgets for the depth and for the round brackets, which make it end.

use Rattle.std.specs.Prelude.{ℕ, zero, suc, pos, Bool, true, ◌&&◌, if◌then◌else◌, ◌==◌, nat_le, List, [], ◌∷◌, ◌++◌, length, Option, Some, None, codes}
use Rattle.edb_scan.specs.declared.lexeme.Mark.{Mark}
use Rattle.edb_scan.specs.declared.lexeme.Mark.TheVariants as mark
use Rattle.edb_scan.specs.declared.lexeme.Token.TheVariants as token
use Rattle.edb_scan.specs.declared.lexeme.Token.TheVariants.{Int, Float, Char, Atom, Var, Str}
use Rattle.edb_lang.specs.declared.operators.UnaryOp.{UnaryOp}
use Rattle.edb_syntax.specs.Depths.{depth}
use Rattle.edb_syntax.specs.Forms.{tuple, list, list_with_tail, unary, remote_call, call}
use Rattle.edb_syntax.specs.Patterns as pattern
use Rattle.edb_syntax.specs.Patterns.{Pat, Pats, pats_count, pattern_line}
use Rattle.edb_syntax.specs.Syntax.{Exp, Exps, Seq, After, Guards, ClauseTree, Clauses, CatchTree, Catches, QualifierTree, Qualifiers, int, atom, string, float, variable, match, catch, begin, case, if_clauses, receive, receive_after, try, fun_clauses, fun_local, fun_remote, comprehension, none, more, sequence, no_after, after, no_guard, alternative, clause, no_clauses, more_clauses, catch_clause, no_catches, more_catches, generator, filter, no_qualifiers, more_qualifiers}
use Rattle.edb_grammar.specs.Toks.{Place, Tok, tok, line_at, most_integer}
use Rattle.edb_grammar.specs.Operators.{Infix, prefix_of, infix_of, between, level, left, right}
use Rattle.edb_grammar.specs.Expressions.{handles, most_parameters}
use Rattle.edb_grammar.specs.Reading.{Read, behind, closed, items, more_text, behind_text, onward, made, fork, choose, refuse, provided}
use Rattle.edb_grammar.specs.PatternReading.{variable_pattern, read_pats, read_pat, read_single}

-- how many round brackets may be open at once, the loosest level, and the tokens
abbrev pub Reader : Type 0
Reader = ℕ → ℕ → Read Exp

-- In what follows n is how deep the parts of the node may be, and `part` reads such a part, of any level.

-- expressions with commas between them
abbrev pub read_all : Read Exp → Read Exps
read_all part ts = items more none mark.Comma part (length ts) ts

-- expressions or none, and the mark that closes them
abbrev pub read_until : Mark → Read Exp → Read Exps
read_until x part ts = fork (behind x ts) (λ us. Some (none, us)) (λ us. closed x (read_all part us)) ts

abbrev pub seq_of : Option (Exps × List Tok) → Option (Seq × List Tok)
seq_of (Some q) = of_exps q.0 q.1
  where
    of_exps : Exps → List Tok → Option (Seq × List Tok)
    of_exps (more e es) ts = Some (sequence e es, ts)
    of_exps none ts = None
seq_of None = None

abbrev pub read_body : Read Exp → Read Seq
read_body part ts = seq_of (read_all part ts)

abbrev pub read_guard : Read Exp → Read Guards
read_guard part ts = items alternative no_guard mark.Semicolon (read_all part) (length ts) ts

-- a guard, if there is one, the arrow and the body
abbrev pub guarded : Guards → Seq → Guards × Seq
guarded g s = (g, s)

abbrev pub read_rest : Read Exp → Read (Guards × Seq)
read_rest part ts =
    fork (behind mark.Arrow ts) (λ us. made (guarded no_guard) (read_body part us))
    (λ us. fork (behind mark.When us)
    (λ vs. onward (closed mark.Arrow (read_guard part vs)) (λ g ws. made (guarded g) (read_body part ws)))
    refuse us)
    ts

abbrev pub clause_of : Pats → Guards × Seq → ClauseTree
clause_of ps r = clause ps r.0 r.1

abbrev pub read_pattern_clause : ℕ → Read Exp → Read ClauseTree
read_pattern_clause n part ts =
    onward (read_pat n ts) (λ p us. made (clause_of (pattern.more p pattern.none)) (read_rest part us))

abbrev pub read_guard_clause : Read Exp → Read ClauseTree
read_guard_clause part ts = onward (closed mark.Arrow (read_guard part ts)) (λ g us. made (clause pattern.none g) (read_body part us))

-- patterns or none, and the parenthesis that closes them
abbrev pub read_parameters : ℕ → Read Pats
read_parameters n ts =
    fork (behind mark.ParenClose ts) (λ us. Some (pattern.none, us)) (λ us. closed mark.ParenClose (read_pats (read_pat n) us)) ts

-- a clause with parameters in parentheses
abbrev pub read_parameters_clause : ℕ → Read Exp → Read ClauseTree
read_parameters_clause n part ts =
    fork (behind mark.ParenOpen ts)
    (λ us. onward (read_parameters n us) (λ ps vs. made (clause_of ps) (read_rest part vs)))
    refuse ts

abbrev pub read_clauses : Read ClauseTree → Read Clauses
read_clauses one ts = items more_clauses no_clauses mark.Semicolon one (length ts) ts

-- how many parameters the first clause has, and whether each clause has so many
abbrev pub clause_arity : ClauseTree → ℕ
clause_arity (clause ps g s) = pats_count ps

abbrev pub first_arity : Clauses → ℕ
first_arity no_clauses = 0
first_arity (more_clauses c cs) = clause_arity c

abbrev pub all_have : ℕ → Clauses → Bool
all_have n no_clauses = true
all_have n (more_clauses c cs) = (clause_arity c == n) && all_have n cs

abbrev pub is_fun : Clauses → Bool
is_fun cs = all_have (first_arity cs) cs && nat_le (first_arity cs) most_parameters

-- `E -> ..` behind the `after` of a `receive`, and its `end`
abbrev pub read_timeout : Read Exp → Place → Clauses → Read Exp
read_timeout part s cs ts =
    onward (closed mark.Arrow (part ts)) (λ e us. made (receive_after s.line cs e) (closed mark.End (read_body part us)))

abbrev pub read_receive : ℕ → Read Exp → Place → Read Exp
read_receive n part s ts =
    fork (behind mark.After ts) (read_timeout part s no_clauses)
    (λ us. onward (read_clauses (read_pattern_clause n part) us) (λ cs vs.
    fork (behind mark.End vs) (λ ws. Some (receive s.line cs, ws))
    (λ ws. fork (behind mark.After ws) (read_timeout part s cs) refuse ws) vs))
    ts

-- the class of a clause behind `catch`
abbrev pub class_of : Tok → Option Pat
class_of (tok s (Atom a)) = Some (pattern.atom s.line a)
class_of (tok s (Var x)) = Some (variable_pattern s.line x)
class_of _ = None

-- what stands behind a mark behind a class
abbrev pub class_at : Option Pat → List Tok → Option (Pat × List Tok)
class_at (Some c) ts = onward (Some (c, ts)) (λ p us. closed mark.Colon (Some (p, us)))
class_at None ts = None

abbrev pub read_class : Read Pat
read_class (t ∷ ts) = class_at (class_of t) ts
read_class [] = None

abbrev pub read_stack : Read Pat
read_stack (tok s (Var x) ∷ ts) = Some (variable_pattern s.line x, ts)
read_stack _ = None

abbrev pub catch_of : Pat → Pat → Option Pat → Guards × Seq → CatchTree
catch_of c p v r = catch_clause c p v r.0 r.1

abbrev pub read_handler : ℕ → Read Exp → Read CatchTree
read_handler n part ts =
    choose (read_class ts)
    (λ c us. onward (read_pat n us) (λ p vs.
    fork (behind mark.Colon vs)
    (λ ws. onward (read_stack ws) (λ v xs. made (catch_of c p (Some v)) (read_rest part xs)))
    (λ ws. made (catch_of c p None) (read_rest part ws)) vs))
    (λ us. onward (read_pat n us) (λ p vs. made (catch_of (pattern.atom (pattern_line p) (codes "throw")) p None) (read_rest part vs)))
    ts

abbrev pub read_of : ℕ → Read Exp → Read Clauses
read_of n part ts = fork (behind mark.Of ts) (read_clauses (read_pattern_clause n part)) (λ us. Some (no_clauses, us)) ts

abbrev pub read_catch : ℕ → Read Exp → Read Catches
read_catch n part ts =
    fork (behind mark.Catch ts) (λ us. items more_catches no_catches mark.Semicolon (read_handler n part) (length us) us)
    (λ us. Some (no_catches, us)) ts

abbrev pub read_after : Read Exp → Read After
read_after part ts = fork (behind mark.After ts) (λ us. made after (read_body part us)) (λ us. Some (no_after, us)) ts

abbrev pub read_try : ℕ → Read Exp → Place → Read Exp
read_try n part s ts =
    onward (read_body part ts) (λ body us.
    onward (read_of n part us) (λ cs vs.
    onward (read_catch n part vs) (λ hs ws.
    onward (closed mark.End (read_after part ws)) (λ a xs.
    provided (handles hs a) (λ ys. Some (try s.line body cs hs a, ys)) xs))))

-- `f/2`
abbrev pub read_name : Read (List ℕ)
read_name (tok s (Atom f) ∷ ts) = Some (f, ts)
read_name _ = None

abbrev pub read_arity : Read ℕ
read_arity (tok a (Int n) ∷ ts) = if nat_le n most_parameters then Some (n, ts) else None
read_arity _ = None

-- behind `fun`: a name, or a module and a name
abbrev pub read_fun_name : Place → Read Exp
read_fun_name s ts =
    onward (read_name ts) (λ f us.
    fork (behind mark.Slash us) (λ vs. made (fun_local s.line s.funs f) (read_arity vs))
    (λ vs. fork (behind mark.Colon vs)
    (λ ws. onward (closed mark.Slash (read_name ws)) (λ g xs. made (fun_remote s.line f g) (read_arity xs)))
    refuse vs)
    us)

-- clauses behind `fun`, for which one round bracket has to be left
abbrev pub read_fun_clauses : ℕ → ℕ → Read Exp → Place → Read Exp
read_fun_clauses zero n part s ts = None
read_fun_clauses (suc m) n part s ts =
    onward (closed mark.End (read_clauses (read_parameters_clause n part) ts)) (λ cs us.
    provided (is_fun cs) (λ vs. Some (fun_clauses s.line s.funs cs, vs)) us)

abbrev pub read_fun : ℕ → ℕ → Read Exp → Place → Read Exp
read_fun m n part s ts = fork (behind mark.ParenOpen ts) (λ us. read_fun_clauses m n part s ts) (read_fun_name s) ts

abbrev pub read_qualifier : ℕ → Read Exp → Read QualifierTree
read_qualifier n part ts =
    choose (closed mark.From (read_pat n ts)) (λ p us. made (generator p) (part us)) (λ us. made filter (part us)) ts

abbrev pub read_qualifiers : ℕ → Read Exp → Read Qualifiers
read_qualifiers n part ts = items more_qualifiers no_qualifiers mark.Comma (read_qualifier n part) (length ts) ts

-- the elements of a list, of which the first has been read
abbrev pub read_elements : Read Exp → Exp → Read Exps
read_elements part e ts = fork (behind mark.Comma ts) (λ us. made (more e) (read_all part us)) (λ us. Some (more e none, us)) ts

abbrev pub read_list : Read Exp → Place → Exps → Read Exp
read_list part s es ts =
    fork (behind mark.BracketClose ts) (λ us. Some (list s.line es, us))
    (λ us. fork (behind mark.Bar us) (λ vs. made (list_with_tail s.line es) (closed mark.BracketClose (part vs))) refuse us)
    ts

abbrev pub read_bracketed : ℕ → Read Exp → Place → Read Exp
read_bracketed n part s ts =
    fork (behind mark.BracketClose ts) (λ us. Some (list s.line none, us))
    (λ us. onward (part us) (λ e vs.
    fork (behind mark.BarBar vs) (λ ws. made (comprehension s.line e) (closed mark.BracketClose (read_qualifiers n part ws)))
    (λ ws. onward (read_elements part e ws) (read_list part s)) vs))
    ts

-- what begins with a mark; `inside` reads what stands in parentheses
abbrev pub read_marked : ℕ → ℕ → Read Exp → Read Exp → Place → Mark → Read Exp
read_marked m n part inside s mark.BracketOpen ts = read_bracketed n part s ts
read_marked m n part inside s mark.BraceOpen ts = made (tuple s.line) (read_until mark.BraceClose part ts)
read_marked m n part inside s mark.ParenOpen ts = closed mark.ParenClose (inside ts)
read_marked m n part inside s mark.Begin ts = made (begin s.line) (closed mark.End (read_body part ts))
read_marked m n part inside s mark.Case ts =
    onward (closed mark.Of (part ts)) (λ e us. made (case s.line e) (closed mark.End (read_clauses (read_pattern_clause n part) us)))
read_marked m n part inside s mark.If ts = made (if_clauses s.line) (closed mark.End (read_clauses (read_guard_clause part) ts))
read_marked m n part inside s mark.Receive ts = read_receive n part s ts
read_marked m n part inside s mark.Try ts = read_try n part s ts
read_marked m n part inside s mark.Fun ts = read_fun m n part s ts
read_marked m n part inside s _ ts = None

-- what stands by itself
abbrev pub read_primary : ℕ → ℕ → Read Exp → Read Exp → Read Exp
read_primary m n part inside (tok s (Var x) ∷ ts) = Some (variable s.line x, ts)
read_primary m n part inside (tok s (Atom a) ∷ ts) = Some (atom s.line a, ts)
read_primary m n part inside (tok s (Int k) ∷ ts) = provided (nat_le k most_integer) (λ us. Some (int s.line (pos k), us)) ts
read_primary m n part inside (tok s (Char c) ∷ ts) = Some (int s.line (pos c), ts)
read_primary m n part inside (tok s Float ∷ ts) = Some (float s.line, ts)
read_primary m n part inside (tok s (Str cs) ∷ ts) = Some (string s.line (cs ++ more_text ts), behind_text ts)
read_primary m n part inside (tok s (token.Mark x) ∷ ts) = read_marked m n part inside s x ts
read_primary m n part inside _ = None

-- arguments, for which one round bracket has to be left
abbrev pub read_arguments : ℕ → Reader → Read Exps
read_arguments zero sub ts = None
read_arguments (suc m) sub ts = read_until mark.ParenClose (sub m 10) ts

-- what stands by itself, or a call of it
abbrev pub read_call : ℕ → ℕ → Reader → Read Exp → Read Exp
read_call m n sub inside ts =
    onward (read_primary m n (sub m 10) inside ts) (λ f us.
    fork (behind mark.ParenOpen us)
    (λ vs. provided (nat_le (depth f) n) (λ ws. made (call (line_at ts) f) (read_arguments m sub ws)) vs)
    (λ vs. fork (behind mark.Colon vs)
    (λ ws. onward (closed mark.ParenOpen (read_primary m n (sub m 10) inside ws)) (λ g xs.
    provided (nat_le (depth f) n && nat_le (depth g) n) (λ ys. made (remote_call (line_at ts) f g) (read_arguments m sub ys)) xs))
    (λ ws. Some (f, ws)) vs)
    us)

-- an operator and its operand, or a call
abbrev pub prefix_at : List Tok → Option UnaryOp
prefix_at (tok s (token.Mark x) ∷ ts) = prefix_of x
prefix_at _ = None

abbrev pub tail : List Tok → List Tok
tail [] = []
tail (t ∷ ts) = ts

abbrev pub operand_at : ℕ → ℕ → Reader → Read Exp → List Tok → Option UnaryOp → Option (Exp × List Tok)
operand_at m n sub inside ts (Some o) = made (unary (line_at ts) o) (sub m 2 (tail ts))
operand_at m n sub inside ts None = read_call m n sub inside ts

abbrev pub read_operand : ℕ → ℕ → Reader → Read Exp → Read Exp
read_operand m n sub inside ts = operand_at m n sub inside ts (prefix_at ts)

-- the operator that stands first, where one does
abbrev pub infix_at : List Tok → Option Infix
infix_at (tok s (token.Mark x) ∷ ts) = infix_of x
infix_at _ = None

-- an operand of level k may stand before this operator where nothing looser than l is read
abbrev pub takes : ℕ → ℕ → Infix → Bool
takes l k o = nat_le (level o) l && nat_le k (left o)

-- The operator o behind an operand e of level k, whose first token is on line `first`: where it takes the operand, its
-- right operand is read, and `further` goes on with both; else the operand is all.
abbrev pub climb_at : ℕ → ℕ → Reader → ℕ → ℕ → (ℕ → Exp → Read Exp) → ℕ → Exp → List Tok → Option Infix → Option (Exp × List Tok)
climb_at m n sub l first further k e ts None = Some (e, ts)
climb_at m n sub l first further k e ts (Some o) =
    if takes l k o
    then provided (nat_le (depth e) n) (λ us. onward (sub m (right o) us) (λ b vs. further (level o) (between first o e b) vs)) (tail ts)
    else Some (e, ts)

abbrev pub climb : ℕ → ℕ → Reader → ℕ → ℕ → ℕ → ℕ → Exp → Read Exp
climb m n sub l first zero k e ts = None
climb m n sub l first (suc turns) k e ts = climb_at m n sub l first (climb m n sub l first turns) k e ts (infix_at ts)

-- the level of an operand that was read by itself; nothing needs more than that it is 2 at most
abbrev pub operand_level : ℕ
operand_level = 2

-- an operand, and the operators behind it
abbrev pub read_operators : ℕ → ℕ → Reader → Read Exp → ℕ → Read Exp
read_operators m n sub inside l ts =
    onward (read_operand m n sub inside ts) (λ e us. climb m n sub l (line_at ts) (suc (length us)) operand_level e us)

-- a match where a pattern and `=` stand first, and else an operand and operators
abbrev pub read_match : ℕ → ℕ → Reader → Read Exp → ℕ → Read Exp
read_match m n sub inside l ts =
    choose (if nat_le 9 l then closed mark.Match (read_single n ts) else None)
    (λ p us. made (match (line_at ts) p) (sub m 10 us))
    (read_operators m n sub inside l) ts

-- an expression whose parts are at most n deep
abbrev pub step : ℕ → Reader → Read Exp → Reader
step n sub inside m l ts =
    fork (if nat_le 10 l then behind mark.Catch ts else None) (λ us. made (catch (line_at ts)) (sub m 10 us))
    (read_match m n sub inside l) ts

-- where `sub` reads the parts: one round bracket fewer is left inside parentheses
abbrev pub within : ℕ → Reader → Reader
within n sub zero l ts = step n sub refuse zero l ts
within n sub (suc m) l ts = step n sub (λ us. within n sub m 10 us) (suc m) l ts

-- `read_expression n m l ts`: the expression at the front, at most n deep, with at most m round brackets open at once,
-- and no looser than l
abbrev pub read_expression : ℕ → Reader
read_expression zero m l ts = None
read_expression (suc n) m l ts = within n (read_expression n) m l ts
