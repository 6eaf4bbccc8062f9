use Rattle.std.proofs.Common.{◌≡◌, map, take}
use Rattle.edb_leaves.proofs.making.values_in.Given as goal

abbrev pub invariant-loop-pair : goal.invariant-loop-pair
invariant-loop-pair l = l.values.items ≡ map (λ c. c.value) (take l.pair-index l.captured)
