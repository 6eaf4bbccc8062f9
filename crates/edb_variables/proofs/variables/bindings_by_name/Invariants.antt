use Rattle.std.proofs.Common.{◌≡◌, ◌≤◌, take, length}
use Rattle.edb_lang.specs.Pairs.{with_pairs, bindings_of, Ascends}
use Rattle.edb_variables.specs.PairStacks.{newest_first}
use Rattle.edb_variables.proofs.variables.bindings_by_name.Given as goal

abbrev pub invariant-loop-place : goal.invariant-loop-place
invariant-loop-place l =
    (l.place ≤ length l.pairs) × Ascends l.bindings × (with_pairs (newest_first (take l.place l.pairs)) l.bindings ≡ bindings_of (newest_first l.pairs))

abbrev pub decreases-loop-place : goal.decreases-loop-place
decreases-loop-place l = l.place
