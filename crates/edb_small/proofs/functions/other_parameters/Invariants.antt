use Rattle.std.proofs.Common.{◌≤◌, [], ◌∷◌, length}
use Rattle.edb_scan.specs.declared.lexeme.Mark.TheVariants as mark
use Rattle.edb_small.specs.Descent.{others, behind, parameter_at}
use Rattle.edb_small.proofs.Turns.{Comes}
use Rattle.edb_small.proofs.functions.other_parameters.Given as goal

-- the parameters so far, and what is left, come to the answer
abbrev pub invariant-loop-after : goal.invariant-loop-after
invariant-loop-after l = record {
  comes : Comes (behind mark.Comma) parameter_at l.parameters.items l.rest (others parameter_at (l.fn.first ∷ []) l.tokens);
  within : length l.rest ≤ length l.tokens;
}

abbrev pub decreases-loop-after : goal.decreases-loop-after
decreases-loop-after l = length l.rest
