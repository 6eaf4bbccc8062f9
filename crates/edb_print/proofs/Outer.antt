-- What stands outermost in an expression, and what that says of its layout.

use Rattle.std.proofs.Common.{◌≡◌, ℕ, ◌+◌, ◌≤◌, max, Bool, true, false, ◌==◌, cond, List, [], ◌∷◌, ◌++◌, Some, refl, sym, ◌∙◌, ap, append_assoc, arith}
use Rattle.std.proofs.lemmas.Bool.{false≢true}
use Rattle.edb_scan.specs.declared.lexeme.Mark.{Mark}
use Rattle.edb_scan.specs.declared.lexeme.Mark.TheVariants as mark
use Rattle.edb_scan.specs.declared.lexeme.Token.TheVariants as token
use Rattle.edb_lang.specs.declared.operators.UnaryOp.{UnaryOp}
use Rattle.edb_lang.specs.declared.operators.UnaryOp.TheVariants as unary
use Rattle.edb_lang.specs.declared.operators.BinaryOp.{BinaryOp}
use Rattle.edb_lang.specs.declared.operators.BinaryOp.TheVariants as op
use Rattle.edb_syntax.specs.declared.operation.Operation.TheVariants.{Unary, Binary, Send, LocalCall, RemoteCall, FunCall}
use Rattle.edb_syntax.specs.Forms.{list_with_tail, with_last, call}
use Rattle.edb_syntax.specs.Depths.{depth, depths}
use Rattle.edb_syntax.specs.Syntax.{Exp, Exps, atom, apply, and_also, or_else, match, catch, none, more}
use Rattle.edb_grammar.specs.Toks.{Tok, funs_with}
use Rattle.edb_grammar.specs.Operators.{prefix_of, Infix, strict, infix_of, strict_level, level, Grouping, to_the_left, to_the_right, not_at_all, grouping, left, right_level, right}
use Rattle.edb_grammar.specs.Expressions.{ReadsAll, one_expression, more_expressions}
use Rattle.edb_grammar.proofs.ClimbComplete.{bounds}
use Rattle.edb_grammar.proofs.Parts.{none_no}
use Rattle.edb_print.specs.Pieces.{Gap, tight, blank, Piece, sign}
use Rattle.edb_print.specs.Layout.{prefix_mark, infix_mark, is_operator, is_open, grouped, lay, lay_all, lay_more, lay_to_tail}
use Rattle.edb_print.specs.Unlined.{unlined, unlined_all}

-- the level of what stands outermost
abbrev pub outer : Exp → ℕ
outer (apply l (Unary o) es) = 2
outer (apply l (Binary o) es) = strict_level o
outer (apply l Send es) = 9
outer (apply l (LocalCall f) es) = 1
outer (apply l RemoteCall es) = 1
outer (apply l FunCall es) = 1
outer (and_also l a b) = 7
outer (or_else l a b) = 8
outer (match l p e) = 9
outer (catch l e) = 10
outer _ = 0

pub low : (e : Exp) → is_operator e ≡ false → outer e ≤ 1
low (apply l (Unary o) es) h = absurd (false≢true (sym h))
low (apply l (Binary o) es) h = absurd (false≢true (sym h))
low (apply l Send es) h = absurd (false≢true (sym h))
low (and_also l a b) h = absurd (false≢true (sym h))
low (or_else l a b) h = absurd (false≢true (sym h))
low (match l p e) h = absurd (false≢true (sym h))
low (catch l e) h = absurd (false≢true (sym h))
low _ h = omega arith

pub lowest : (e : Exp) → is_open e ≡ false → outer e ≡ 0
lowest (apply l (Unary o) es) h = absurd (false≢true (sym h))
lowest (apply l (Binary o) es) h = absurd (false≢true (sym h))
lowest (apply l Send es) h = absurd (false≢true (sym h))
lowest (apply l (LocalCall f) es) h = absurd (false≢true (sym h))
lowest (apply l RemoteCall es) h = absurd (false≢true (sym h))
lowest (apply l FunCall es) h = absurd (false≢true (sym h))
lowest (and_also l a b) h = absurd (false≢true (sym h))
lowest (or_else l a b) h = absurd (false≢true (sym h))
lowest (match l p e) h = absurd (false≢true (sym h))
lowest (catch l e) h = absurd (false≢true (sym h))
lowest _ h = refl

-- the call of a name, and of any other expression
pub outer_call : (l : ℕ) (f : Exp) (es : Exps) → outer (call l f es) ≡ 1
outer_call l (atom k f) es = refl
outer_call l f es = refl

pub unlined_call : (l : ℕ) (f : Exp) (es : Exps) → unlined (call l f es) ≡ call 0 (unlined f) (unlined_all es)
unlined_call l (atom k f) es = refl
unlined_call l f es = refl

zero_max : (n : ℕ) → max 0 n ≡ n
zero_max n = omega arith

pub depth_call : (l : ℕ) (f : Exp) (es : Exps) → depth (call l f es) ≡ max (depth f) (depths es) + 1
depth_call l (atom k f) es = refl
depth_call l f es = ap (λ n. n + 1) (zero_max (max (depth f) (depths es)))

pub call_laid : (g : Gap) (d l : ℕ) (f : Exp) (es : Exps) → lay g d (call l f es)
    ≡ grouped (is_open f) (λ h. lay h d f) g ++ sign tight mark.ParenOpen ∷ (lay_all tight blank d es ++ sign tight mark.ParenClose ∷ [])
call_laid g d l (atom k f) es = refl
call_laid g d l f es = refl

-- a list with a tail
to_tail_laid : (d : ℕ) (es : Exps) (t : Exp) → lay_to_tail d (with_last es t) ≡ lay_more blank d es ++ sign blank mark.Bar ∷ lay blank d t
to_tail_laid d none t = refl
to_tail_laid d (more e none) t =
    ap (λ (ps : List Piece). sign tight mark.Comma ∷ ps) (sym (append_assoc (lay blank d e) [] (sign blank mark.Bar ∷ lay blank d t)))
to_tail_laid d (more e (more f es)) t =
    ap (λ (ps : List Piece). sign tight mark.Comma ∷ (lay blank d e ++ ps)) (to_tail_laid d (more f es) t)
    ∙ ap (λ (ps : List Piece). sign tight mark.Comma ∷ ps)
    (sym (append_assoc (lay blank d e) (lay_more blank d (more f es)) (sign blank mark.Bar ∷ lay blank d t)))

tail_of_laid : (g : Gap) (d l : ℕ) (e : Exp) (es : Exps) (t : Exp) → lay g d (list_with_tail l (more e es) t)
    ≡ sign g mark.BracketOpen ∷ (lay_all tight blank d (more e es) ++ sign blank mark.Bar ∷ (lay blank d t ++ sign tight mark.BracketClose ∷ []))
tail_of_laid g d l e es t =
    ap (λ (ps : List Piece). sign g mark.BracketOpen ∷ (lay tight d e ++ (ps ++ sign tight mark.BracketClose ∷ []))) (to_tail_laid d es t)
    ∙ ap (λ (ps : List Piece). sign g mark.BracketOpen ∷ (lay tight d e ++ ps))
    (append_assoc (lay_more blank d es) (sign blank mark.Bar ∷ lay blank d t) (sign tight mark.BracketClose ∷ []))
    ∙ ap (λ (ps : List Piece). sign g mark.BracketOpen ∷ ps)
    (sym (append_assoc (lay tight d e) (lay_more blank d es) (sign blank mark.Bar ∷ (lay blank d t ++ sign tight mark.BracketClose ∷ []))))

pub with_tail_laid : {m : ℕ} {ts : List Tok} {es : Exps} → ReadsAll m ts es → (g : Gap) (d l : ℕ) (t : Exp)
    → lay g d (list_with_tail l es t)
    ≡ sign g mark.BracketOpen ∷ (lay_all tight blank d es ++ sign blank mark.Bar ∷ (lay blank d t ++ sign tight mark.BracketClose ∷ []))
with_tail_laid (one_expression {e = e} r) g d l t = tail_of_laid g d l e none t
with_tail_laid (more_expressions {e = e} {es = es} s r rs) g d l t = tail_of_laid g d l e es t

pub depths_last : (es : Exps) (t : Exp) → depths (with_last es t) ≡ max (depths es) (depth t)
depths_last none t = omega arith
depths_last (more e es) t = let h = depths_last es t in omega (arith, h)

pub unlined_last : (es : Exps) (t : Exp) → unlined_all (with_last es t) ≡ with_last (unlined_all es) (unlined t)
unlined_last none t = refl
unlined_last (more e es) t = ap (more (unlined e)) (unlined_last es t)

-- the marks of operators are read as these operators
pub prefix_again : (o : UnaryOp) → prefix_of (prefix_mark o) ≡ Some o
prefix_again unary.Plus = refl
prefix_again unary.Minus = refl
prefix_again unary.BitNot = refl
prefix_again unary.Not = refl

pub infix_again : (o : BinaryOp) → infix_of (infix_mark o) ≡ Some (strict o)
infix_again op.Divide = refl
infix_again op.Multiply = refl
infix_again op.Div = refl
infix_again op.Rem = refl
infix_again op.BitAnd = refl
infix_again op.And = refl
infix_again op.Add = refl
infix_again op.Subtract = refl
infix_again op.BitOr = refl
infix_again op.BitXor = refl
infix_again op.ShiftLeft = refl
infix_again op.ShiftRight = refl
infix_again op.Or = refl
infix_again op.Xor = refl
infix_again op.Append = refl
infix_again op.Remove = refl
infix_again op.Equal = refl
infix_again op.Unequal = refl
infix_again op.AtMost = refl
infix_again op.LessThan = refl
infix_again op.AtLeast = refl
infix_again op.GreaterThan = refl
infix_again op.ExactlyEqual = refl
infix_again op.ExactlyUnequal = refl

-- `fun` is no operator
pub prefix_no_fun : (x : Mark) (o : UnaryOp) → prefix_of x ≡ Some o → (n : ℕ) → funs_with n (token.Mark x) ≡ n
prefix_no_fun mark.Fun o h n = absurd (none_no o h)
prefix_no_fun _ o h n = refl

pub infix_no_fun : (x : Mark) (o : Infix) → infix_of x ≡ Some o → (n : ℕ) → funs_with n (token.Mark x) ≡ n
infix_no_fun mark.Fun o h n = absurd (none_no o h)
infix_no_fun _ o h n = refl

-- each operator takes a call on both sides
pub left_takes : (o : Infix) → 1 ≤ left o
left_takes o = let h = (bounds o).left_least in omega (arith, h)

right_takes_at : (x : Grouping) (k : ℕ) → 3 ≤ k → 1 ≤ right_level x k
right_takes_at to_the_left k h = omega (arith, h)
right_takes_at not_at_all k h = omega (arith, h)
right_takes_at to_the_right k h = by (k == 9)
  where
    by : (b : Bool) → 1 ≤ cond b 10 k
    by true = omega arith
    by false = omega (arith, h)

pub right_takes : (o : Infix) → 1 ≤ right o
right_takes o = right_takes_at (grouping o) (level o) (bounds o).least
