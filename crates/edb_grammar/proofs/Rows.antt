-- The grammar at work on small lists of tokens: each row is a derivation, written out.

use Rattle.std.proofs.Common.{◌≡◌, ◌≢◌, inl, inr, ℕ, pos, List, [], ◌∷◌, refl, ap, arith, codes}
use Rattle.edb_scan.specs.declared.lexeme.Mark.{Mark}
use Rattle.edb_scan.specs.declared.lexeme.Mark.TheVariants as mark
use Rattle.edb_scan.specs.declared.lexeme.Token.{Token}
use Rattle.edb_scan.specs.declared.lexeme.Token.TheVariants as token
use Rattle.edb_scan.specs.declared.lexeme.Token.TheVariants.{Int, Atom, Var, Dot}
use Rattle.edb_scan.specs.declared.lexeme.Placed.{Placed}
use Rattle.edb_lang.specs.declared.operators.BinaryOp.TheVariants as op
use Rattle.edb_syntax.specs.declared.operation.Operation.TheVariants.{LocalCall}
use Rattle.edb_syntax.specs.Forms as form
use Rattle.edb_syntax.specs.Patterns as pattern
use Rattle.edb_syntax.specs.Syntax.{Exp, int, atom, variable, apply, match, case, none, more, sequence, no_guard, clause, no_clauses, more_clauses}
use Rattle.edb_grammar.specs.Toks.{Place, Tok, tok, word}
use Rattle.edb_grammar.specs.Operators.{strict}
use Rattle.edb_grammar.specs.Patterns.{p_variable, p_integer, a_variable, no_patterns}
use Rattle.edb_grammar.specs.Expressions.{Reads, r_variable, r_atom, r_integer, r_case, r_call, r_infix, r_match, one_expression, more_expressions, some_expressions, a_body, without_guard, pattern_clause, parameters_clause, named_clause, last_clause}
use Rattle.edb_grammar.specs.Forms.{names, a_module, a_function}
use Rattle.edb_grammar.specs.Files.{ReadsFile, a_file, function_form, no_forms}
use Rattle.edb_grammar.specs.Faults.{IsFault, bad_here, bad_later}
use Rattle.edb_grammar.proofs.FormSound.{without_dot}

-- the places of a text of one line that has no fun
abbrev q : Place
q = record { line = 1; funs = 0 }

abbrev one : Tok
one = tok q (Int 1)

abbrev two : Tok
two = tok q (Int 2)

abbrev three : Tok
three = tok q (Int 3)

abbrev minus : Tok
minus = word q mark.Minus

abbrev literal : ℕ → Exp
literal n = int 1 (pos n)

-- `1 - 2 - 3` groups to the left
left_group : Reads 0 4 (one ∷ minus ∷ two ∷ minus ∷ three ∷ []) (form.binary 1 op.Subtract (form.binary 1 op.Subtract (literal 1) (literal 2)) (literal 3))
left_group = r_infix mark.Minus (strict op.Subtract) q refl (omega arith) (omega arith)
    (r_infix mark.Minus (strict op.Subtract) q refl (omega arith) (omega arith) (r_integer (omega arith)) (r_integer (omega arith)))
    (r_integer (omega arith))

-- `X = Y = 1` groups to the right, each side left of a `=` being a pattern
abbrev first_of : List ℕ → ℕ
first_of [] = 0
first_of (c ∷ cs) = c

x_named : codes "X" ≢ codes "_"
x_named e = let h : 88 ≡ 95 = ap first_of e in omega (arith, h)

y_named : codes "Y" ≢ codes "_"
y_named e = let h : 89 ≡ 95 = ap first_of e in omega (arith, h)

abbrev x : Tok
x = tok q (Var (codes "X"))

abbrev y : Tok
y = tok q (Var (codes "Y"))

abbrev equals : Tok
equals = word q mark.Match

match_to_the_right : Reads 0 9 (x ∷ equals ∷ y ∷ equals ∷ one ∷ [])
    (match 1 (pattern.variable 1 (codes "X")) (match 1 (pattern.variable 1 (codes "Y")) (literal 1)))
match_to_the_right = r_match q (p_variable (a_variable x_named)) (r_match q (p_variable (a_variable y_named)) (r_integer (omega arith)))

-- `f(1, X)` calls the function f of the module itself
a_call : Reads 1 1 (tok q (Atom (codes "f")) ∷ word q mark.ParenOpen ∷ one ∷ word q mark.Comma ∷ x ∷ word q mark.ParenClose ∷ [])
    (apply 1 (LocalCall (codes "f")) (more (literal 1) (more (variable 1 (codes "X")) none)))
a_call = r_call q q r_atom (some_expressions (more_expressions q (r_integer (omega arith)) (one_expression r_variable)))

-- `case X of 1 -> a end`
a_case : Reads 0 0 (word q mark.Case ∷ x ∷ word q mark.Of ∷ one ∷ word q mark.Arrow ∷ tok q (Atom (codes "a")) ∷ word q mark.End ∷ [])
    (case 1 (variable 1 (codes "X"))
    (more_clauses (clause (pattern.more (pattern.int 1 (pos 1)) pattern.none) no_guard (sequence (atom 1 (codes "a")) none)) no_clauses))
a_case = r_case q q q r_variable (last_clause (pattern_clause (p_integer (omega arith)) (without_guard q (a_body (one_expression r_atom)))))

-- `-module(m).` on line 1 and `f() -> 1.` on line 2
abbrev at_line : ℕ → Token → Placed
at_line l t = record { line = l; token = t }

abbrev symbol : ℕ → Mark → Placed
symbol l m = at_line l (token.Mark m)

abbrev small_file : List Placed
small_file =
    symbol 1 mark.Minus ∷ at_line 1 (Atom (codes "module")) ∷ symbol 1 mark.ParenOpen ∷ at_line 1 (Atom (codes "m"))
    ∷ symbol 1 mark.ParenClose ∷ at_line 1 Dot ∷ at_line 2 (Atom (codes "f")) ∷ symbol 2 mark.ParenOpen
    ∷ symbol 2 mark.ParenClose ∷ symbol 2 mark.Arrow ∷ at_line 2 (Int 1) ∷ at_line 2 Dot ∷ []

abbrev r : Place
r = record { line = 2; funs = 0 }

a_small_file : ReadsFile small_file (record {
  name = codes "m";
  line = 1;
  exports = [];
  functions =
      record {
        name = codes "f";
        arity = 0;
        line = 2;
        clauses =
            more_clauses (clause pattern.none no_guard (sequence (int 2 (pos 1)) none)) no_clauses;
      } ∷ [];
})
a_small_file = a_file refl (a_module q q q q q q)
    (function_form
    (a_function r (last_clause (named_clause r (parameters_clause r r no_patterns (without_guard r (a_body (one_expression (r_integer (omega arith))))))))
    (omega arith) (omega arith))
    no_forms)

-- a file without tokens has its fault at form 1, line 1
no_tokens : IsFault [] 1 1
no_tokens = inl (refl, refl, refl)

-- of `-module(m).` and, on line 2, `f` without a dot, the second form has no tree
abbrev cut_short : List Placed
cut_short =
    symbol 1 mark.Minus ∷ at_line 1 (Atom (codes "module")) ∷ symbol 1 mark.ParenOpen ∷ at_line 1 (Atom (codes "m"))
    ∷ symbol 1 mark.ParenClose ∷ at_line 1 Dot ∷ at_line 2 (Atom (codes "f")) ∷ []

second_form : IsFault cut_short 2 2
second_form = inr (bad_later (record { tree = names 1 (codes "m"); may_be = refl; reads = a_module q q q q q q })
    (bad_here (λ has. without_dot refl has.reads)))
