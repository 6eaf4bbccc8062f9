use Rattle.std.proofs.Common.{length}
use Rattle.edb_small.specs.Descent.{all_left, function_at, functions_at}
use Rattle.edb_small.proofs.Turns.{Comes}
use Rattle.edb_small.proofs.functions.functions.Given as goal

-- the functions so far, and what is left, come to the answer
abbrev pub invariant-loop-rest : goal.invariant-loop-rest
invariant-loop-rest l = Comes all_left function_at l.functions.items l.rest (functions_at l.tokens)

abbrev pub decreases-loop-rest : goal.decreases-loop-rest
decreases-loop-rest l = length l.rest
