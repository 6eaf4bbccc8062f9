-- The operators: which mark writes which, how tight it is, and how it groups. Levels are counted from the tightest
-- one: 0 is what stands by itself, 1 a call, 2 an operator before its operand, 10 a `catch`.

use Rattle.std.specs.Prelude.{ℕ, ◌-◌, ◌==◌, cond, Option, None, Some}
use Rattle.edb_scan.specs.declared.lexeme.Mark.{Mark}
use Rattle.edb_scan.specs.declared.lexeme.Mark.TheVariants as mark
use Rattle.edb_lang.specs.declared.operators.UnaryOp.{UnaryOp}
use Rattle.edb_lang.specs.declared.operators.UnaryOp.TheVariants as unary
use Rattle.edb_lang.specs.declared.operators.BinaryOp.{BinaryOp}
use Rattle.edb_lang.specs.declared.operators.BinaryOp.TheVariants as binary
use Rattle.edb_syntax.specs.Forms as form
use Rattle.edb_syntax.specs.Syntax.{Exp, and_also, or_else}

-- an operator before its operand
abbrev pub prefix_of : Mark → Option UnaryOp
prefix_of mark.Plus = Some unary.Plus
prefix_of mark.Minus = Some unary.Minus
prefix_of mark.BitNot = Some unary.BitNot
prefix_of mark.Not = Some unary.Not
prefix_of _ = None

-- An operator between two operands that are expressions: one that evaluates both, `andalso`, `orelse`, or `!`. The
-- mark `=` is none, since a pattern stands on its left.
pub data Infix : Type 0 where
  strict : BinaryOp → Infix
  andalso : Infix
  orelse : Infix
  sends : Infix

abbrev pub infix_of : Mark → Option Infix
infix_of mark.Slash = Some (strict binary.Divide)
infix_of mark.Star = Some (strict binary.Multiply)
infix_of mark.Div = Some (strict binary.Div)
infix_of mark.Rem = Some (strict binary.Rem)
infix_of mark.BitAnd = Some (strict binary.BitAnd)
infix_of mark.And = Some (strict binary.And)
infix_of mark.Plus = Some (strict binary.Add)
infix_of mark.Minus = Some (strict binary.Subtract)
infix_of mark.BitOr = Some (strict binary.BitOr)
infix_of mark.BitXor = Some (strict binary.BitXor)
infix_of mark.ShiftLeft = Some (strict binary.ShiftLeft)
infix_of mark.ShiftRight = Some (strict binary.ShiftRight)
infix_of mark.Or = Some (strict binary.Or)
infix_of mark.Xor = Some (strict binary.Xor)
infix_of mark.PlusPlus = Some (strict binary.Append)
infix_of mark.MinusMinus = Some (strict binary.Remove)
infix_of mark.Equal = Some (strict binary.Equal)
infix_of mark.Unequal = Some (strict binary.Unequal)
infix_of mark.AtMost = Some (strict binary.AtMost)
infix_of mark.LessThan = Some (strict binary.LessThan)
infix_of mark.AtLeast = Some (strict binary.AtLeast)
infix_of mark.GreaterThan = Some (strict binary.GreaterThan)
infix_of mark.ExactlyEqual = Some (strict binary.ExactlyEqual)
infix_of mark.ExactlyUnequal = Some (strict binary.ExactlyUnequal)
infix_of mark.AndAlso = Some andalso
infix_of mark.OrElse = Some orelse
infix_of mark.Bang = Some sends
infix_of _ = None

-- the tree of an operator of this line between these operands
abbrev pub between : ℕ → Infix → Exp → Exp → Exp
between l (strict o) a b = form.binary l o a b
between l andalso a b = and_also l a b
between l orelse a b = or_else l a b
between l sends a b = form.send l a b

abbrev pub strict_level : BinaryOp → ℕ
strict_level binary.Divide = 3
strict_level binary.Multiply = 3
strict_level binary.Div = 3
strict_level binary.Rem = 3
strict_level binary.BitAnd = 3
strict_level binary.And = 3
strict_level binary.Add = 4
strict_level binary.Subtract = 4
strict_level binary.BitOr = 4
strict_level binary.BitXor = 4
strict_level binary.ShiftLeft = 4
strict_level binary.ShiftRight = 4
strict_level binary.Or = 4
strict_level binary.Xor = 4
strict_level binary.Append = 5
strict_level binary.Remove = 5
strict_level binary.Equal = 6
strict_level binary.Unequal = 6
strict_level binary.AtMost = 6
strict_level binary.LessThan = 6
strict_level binary.AtLeast = 6
strict_level binary.GreaterThan = 6
strict_level binary.ExactlyEqual = 6
strict_level binary.ExactlyUnequal = 6

abbrev pub level : Infix → ℕ
level (strict o) = strict_level o
level andalso = 7
level orelse = 8
level sends = 9

-- how the operators of a level group: `A - B - C` is `(A - B) - C`, `A ++ B ++ C` is `A ++ (B ++ C)`, and
-- `A < B < C` is nothing
pub data Grouping : Type 0 where
  to_the_left : Grouping
  to_the_right : Grouping
  not_at_all : Grouping

abbrev pub grouping : Infix → Grouping
grouping o =
    cond (level o == 3) to_the_left
    (cond (level o == 4) to_the_left
    (cond (level o == 6) not_at_all to_the_right))

-- the loosest level of a left operand: the operator's own where it groups to the left, else one tighter
abbrev pub left_level : Grouping → ℕ → ℕ
left_level to_the_left k = k
left_level _ k = k - 1

-- the loosest level of a right operand: the operator's own where it groups to the right, else one tighter; behind
-- an operator of level 9 also a `catch` may stand
abbrev pub right_level : Grouping → ℕ → ℕ
right_level to_the_right k = cond (k == 9) 10 k
right_level _ k = k - 1

abbrev pub left : Infix → ℕ
left o = left_level (grouping o) (level o)

abbrev pub right : Infix → ℕ
right o = right_level (grouping o) (level o)
