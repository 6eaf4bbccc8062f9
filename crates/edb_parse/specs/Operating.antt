-- The operators of the code, as the grammar has them.

use Rattle.std.specs.Prelude.{◌≡◌, ℕ, false, ◌==◌, cond, Option, None, Some}
use Rattle.edb_grammar.specs.Operators.{Infix, strict, andalso, orelse, sends, Grouping, to_the_left, to_the_right, not_at_all, left_level, right_level}
use Rattle.edb_grammar.specs.ExpressionReading.{takes}
use Rattle.edb_parse.specs.declared.operators.Operator.{Operator}
use Rattle.edb_parse.specs.declared.operators.Operator.TheVariants as operator

abbrev pub infix_from : Operator → Infix
infix_from (operator.Strict o) = strict o
infix_from operator.AndAlso = andalso
infix_from operator.OrElse = orelse
infix_from operator.Send = sends

-- how the operators of a level group, and how loose their operands may be
abbrev pub grouping_at : ℕ → Grouping
grouping_at k = cond (k == 3) to_the_left (cond (k == 4) to_the_left (cond (k == 6) not_at_all to_the_right))

abbrev pub left_at : ℕ → ℕ
left_at k = left_level (grouping_at k) k

abbrev pub right_at : ℕ → ℕ
right_at k = right_level (grouping_at k) k

-- no operator stands there, or one that doesn't take an operand of level k where nothing looser than l is read
abbrev pub Stops : ℕ → ℕ → Option Infix → Type 0
Stops l k None = Unit {0}
Stops l k (Some o) = takes l k o ≡ false
