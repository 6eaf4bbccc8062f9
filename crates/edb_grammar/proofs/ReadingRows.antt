-- The descent at work on small lists of tokens, by computation.

use Rattle.std.proofs.Common.{◌≡◌, pos, [], ◌∷◌, Some, None, refl, codes}
use Rattle.edb_scan.specs.declared.lexeme.Mark.{Mark}
use Rattle.edb_scan.specs.declared.lexeme.Mark.TheVariants as mark
use Rattle.edb_scan.specs.declared.lexeme.Token.TheVariants.{Int, Atom, Var, Str}
use Rattle.edb_lang.specs.declared.operators.BinaryOp.TheVariants as op
use Rattle.edb_lang.specs.declared.operators.UnaryOp.TheVariants as before
use Rattle.edb_syntax.specs.declared.operation.Operation.TheVariants.{LocalCall}
use Rattle.edb_syntax.specs.Forms as form
use Rattle.edb_syntax.specs.Patterns as pattern
use Rattle.edb_syntax.specs.Syntax.{Exp, int, atom, string, variable, apply, match, catch, try, fun_clauses, comprehension, receive_after, none, more, sequence, no_after, no_guard, clause, no_clauses, more_clauses, catch_clause, no_catches, more_catches, generator, no_qualifiers, more_qualifiers}
use Rattle.edb_grammar.specs.Toks.{Place, Tok, tok, word}
use Rattle.edb_grammar.specs.ExpressionReading.{read_expression}

abbrev q : Place
q = record { line = 1; funs = 4 }

abbrev one : Tok
one = tok q (Int 1)

abbrev x : Tok
x = tok q (Var (codes "X"))

abbrev a : Tok
a = tok q (Atom (codes "a"))

abbrev w : Mark → Tok
w m = word q m

abbrev unit : Exp
unit = int 1 (pos 1)

-- `1 - 1 - 1` to the left
left_group : read_expression 3 0 10 (one ∷ w mark.Minus ∷ one ∷ w mark.Minus ∷ one ∷ [])
    ≡ Some (form.binary 1 op.Subtract (form.binary 1 op.Subtract unit unit) unit, [])
left_group = refl

-- it is 3 deep
too_deep : read_expression 2 0 10 (one ∷ w mark.Minus ∷ one ∷ w mark.Minus ∷ one ∷ []) ≡ None
too_deep = refl

-- `1 ++ 1 ++ 1` to the right
right_group : read_expression 3 0 10 (one ∷ w mark.PlusPlus ∷ one ∷ w mark.PlusPlus ∷ one ∷ [])
    ≡ Some (form.binary 1 op.Append unit (form.binary 1 op.Append unit unit), [])
right_group = refl

-- of `1 < 1 < 1` the second `<` is left over
no_group : read_expression 3 0 10 (one ∷ w mark.LessThan ∷ one ∷ w mark.LessThan ∷ one ∷ [])
    ≡ Some (form.binary 1 op.LessThan unit unit, w mark.LessThan ∷ one ∷ [])
no_group = refl

-- `1 + 1 * - 1`
levels : read_expression 4 0 10 (one ∷ w mark.Plus ∷ one ∷ w mark.Star ∷ w mark.Minus ∷ one ∷ [])
    ≡ Some (form.binary 1 op.Add unit (form.binary 1 op.Multiply unit (form.unary 1 before.Minus unit)), [])
levels = refl

-- `a ! X = catch 1`
send_match_catch : read_expression 4 0 10 (a ∷ w mark.Bang ∷ x ∷ w mark.Match ∷ w mark.Catch ∷ one ∷ [])
    ≡ Some (form.send 1 (atom 1 (codes "a")) (match 1 (pattern.variable 1 (codes "X")) (catch 1 unit)), [])
send_match_catch = refl

-- `1 + catch 1` is refused
no_catch : read_expression 4 0 10 (one ∷ w mark.Plus ∷ w mark.Catch ∷ one ∷ []) ≡ None
no_catch = refl

-- `a(1)` needs a bracket, and `a(1)(1)` leaves the second arguments over
a_call : read_expression 2 1 10 (a ∷ w mark.ParenOpen ∷ one ∷ w mark.ParenClose ∷ w mark.ParenOpen ∷ [])
    ≡ Some (apply 1 (LocalCall (codes "a")) (more unit none), w mark.ParenOpen ∷ [])
a_call = refl

no_bracket : read_expression 2 0 10 (a ∷ w mark.ParenOpen ∷ one ∷ w mark.ParenClose ∷ []) ≡ None
no_bracket = refl

-- `a:X(1)`
a_remote_call : read_expression 2 1 10 (a ∷ w mark.Colon ∷ x ∷ w mark.ParenOpen ∷ one ∷ w mark.ParenClose ∷ [])
    ≡ Some (form.remote_call 1 (atom 1 (codes "a")) (variable 1 (codes "X")) (more unit none), [])
a_remote_call = refl

-- `[1, 1 | X]`, `[1 || X <- 1]`
a_tail : read_expression 2 0 10 (w mark.BracketOpen ∷ one ∷ w mark.Comma ∷ one ∷ w mark.Bar ∷ x ∷ w mark.BracketClose ∷ [])
    ≡ Some (form.list_with_tail 1 (more unit (more unit none)) (variable 1 (codes "X")), [])
a_tail = refl

a_comprehension : read_expression 2 0 10 (w mark.BracketOpen ∷ one ∷ w mark.BarBar ∷ x ∷ w mark.From ∷ one ∷ w mark.BracketClose ∷ [])
    ≡ Some (comprehension 1 unit (more_qualifiers (generator (pattern.variable 1 (codes "X")) unit) no_qualifiers), [])
a_comprehension = refl

-- `try 1 catch a:X -> 1 end`
a_try : read_expression 2 0 10 (w mark.Try ∷ one ∷ w mark.Catch ∷ a ∷ w mark.Colon ∷ x ∷ w mark.Arrow ∷ one ∷ w mark.End ∷ [])
    ≡ Some (
      try 1 (sequence unit none) no_clauses
          (more_catches (catch_clause (pattern.atom 1 (codes "a")) (pattern.variable 1 (codes "X")) None no_guard (sequence unit none)) no_catches)
          no_after,
      [],
    )
a_try = refl

-- `try 1 end` has neither a `catch` nor an `after`
no_try : read_expression 2 0 10 (w mark.Try ∷ one ∷ w mark.End ∷ []) ≡ None
no_try = refl

-- `fun(X) -> 1; (1) -> 1 end`, and one whose second clause has another arity
a_fun : read_expression 2 1 10 (w mark.Fun ∷ w mark.ParenOpen ∷ x ∷ w mark.ParenClose ∷ w mark.Arrow ∷ one ∷ w mark.Semicolon
    ∷ w mark.ParenOpen ∷ one ∷ w mark.ParenClose ∷ w mark.Arrow ∷ one ∷ w mark.End ∷ [])
    ≡ Some (
      fun_clauses 1 4 (more_clauses (clause (pattern.more (pattern.variable 1 (codes "X")) pattern.none) no_guard (sequence unit none))
          (more_clauses (clause (pattern.more (pattern.int 1 (pos 1)) pattern.none) no_guard (sequence unit none)) no_clauses)),
      [],
    )
a_fun = refl

no_fun : read_expression 2 1 10 (w mark.Fun ∷ w mark.ParenOpen ∷ x ∷ w mark.ParenClose ∷ w mark.Arrow ∷ one ∷ w mark.Semicolon
    ∷ w mark.ParenOpen ∷ w mark.ParenClose ∷ w mark.Arrow ∷ one ∷ w mark.End ∷ []) ≡ None
no_fun = refl

-- `receive after 1 -> 1 end`; `receive end` has neither a clause nor an `after`
a_receive : read_expression 2 0 10 (w mark.Receive ∷ w mark.After ∷ one ∷ w mark.Arrow ∷ one ∷ w mark.End ∷ [])
    ≡ Some (receive_after 1 no_clauses unit (sequence unit none), [])
a_receive = refl

no_receive : read_expression 2 0 10 (w mark.Receive ∷ w mark.End ∷ []) ≡ None
no_receive = refl

-- two strings in a row are one
one_string : read_expression 1 0 10 (tok q (Str (codes "a")) ∷ tok q (Str (codes "b")) ∷ []) ≡ Some (string 1 (codes "ab"), [])
one_string = refl
