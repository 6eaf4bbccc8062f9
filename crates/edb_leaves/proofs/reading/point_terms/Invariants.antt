use Rattle.std.proofs.Common.{◌≡◌, map, pos, take}
use Rattle.edb_lang.specs.Terms.{int}
use Rattle.edb_leaves.proofs.reading.point_terms.Given as goal

abbrev pub invariant-loop-point : goal.invariant-loop-point
invariant-loop-point l = l.items.items ≡ map (λ c. int (pos c)) (take l.point-index l.points)
