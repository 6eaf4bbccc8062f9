use Rattle.std.proofs.Common.{◌≡◌, ◌≤◌, take, length}
use Rattle.edb_variables.specs.PairStacks.{newest_first, place_bound}
use Rattle.edb_variables.proofs.variables.newest_place.Given as goal

abbrev pub invariant-loop-place : goal.invariant-loop-place
invariant-loop-place l =
    (l.place ≤ length l.pairs) × (place_bound l.name (newest_first (take l.place l.pairs)) ≡ place_bound l.name (newest_first l.pairs))

abbrev pub decreases-loop-place : goal.decreases-loop-place
decreases-loop-place l = l.place
