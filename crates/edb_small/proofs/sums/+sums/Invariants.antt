use Rattle.std.proofs.Common.{◌+◌, ◌*◌, ◌≤◌, [], ◌∷◌, length}
use Rattle.edb_scan.specs.declared.lexeme.Mark.TheVariants as mark
use Rattle.edb_small.specs.Descent.{others, behind, sum_at}
use Rattle.edb_small.proofs.Turns.{Comes}
use Rattle.edb_small.proofs.sums.+sums.Given as goal

abbrev pub decreases-sum : goal.decreases-sum
decreases-sum l = 20 * l.levels

abbrev pub decreases-sum_within : goal.decreases-sum_within
decreases-sum_within l = 20 * l.levels + 9

abbrev pub decreases-added : goal.decreases-added
decreases-added l = 20 * l.levels + 8

abbrev pub decreases-operand : goal.decreases-operand
decreases-operand l = 20 * l.levels + 7

abbrev pub decreases-applied : goal.decreases-applied
decreases-applied l = 20 * l.levels + 6

abbrev pub decreases-called : goal.decreases-called
decreases-called l = 20 * l.levels + 5

abbrev pub decreases-displayed : goal.decreases-displayed
decreases-displayed l = 20 * l.levels + 5

abbrev pub decreases-arguments : goal.decreases-arguments
decreases-arguments l = 20 * l.levels + 4

abbrev pub decreases-some_arguments : goal.decreases-some_arguments
decreases-some_arguments l = 20 * l.levels + 3

abbrev pub decreases-other_arguments : goal.decreases-other_arguments
decreases-other_arguments l = 20 * l.levels + 2

-- the arguments so far, and what is left, come to the answer
abbrev pub invariant-other_arguments-loop-after : goal.invariant-other_arguments-loop-after
invariant-other_arguments-loop-after l = record {
  comes : Comes (behind mark.Comma) (sum_at l.levels) l.args.items l.rest (others (sum_at l.levels) (l.fn.first ∷ []) l.tokens);
  within : length l.rest ≤ length l.tokens;
}

abbrev pub decreases-other_arguments-loop-after : goal.decreases-other_arguments-loop-after
decreases-other_arguments-loop-after l = length l.rest
