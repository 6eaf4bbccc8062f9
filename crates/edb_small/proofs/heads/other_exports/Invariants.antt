use Rattle.std.proofs.Common.{◌≤◌, [], ◌∷◌, length}
use Rattle.edb_scan.specs.declared.lexeme.Mark.TheVariants as mark
use Rattle.edb_small.specs.Descent.{others, behind, export_at}
use Rattle.edb_small.proofs.Turns.{Comes}
use Rattle.edb_small.proofs.heads.other_exports.Given as goal

-- the exports so far, and what is left, come to the answer
abbrev pub invariant-loop-after : goal.invariant-loop-after
invariant-loop-after l = record {
  comes : Comes (behind mark.Comma) export_at l.exports.items l.rest (others export_at (l.fn.first ∷ []) l.tokens);
  within : length l.rest ≤ length l.tokens;
}

abbrev pub decreases-loop-after : goal.decreases-loop-after
decreases-loop-after l = length l.rest
