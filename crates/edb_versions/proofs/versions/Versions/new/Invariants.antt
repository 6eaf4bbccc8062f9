use Rattle.std.proofs.Common.{◌≡◌, map, take}
use Rattle.edb_versions.proofs.versions.Versions.new.Given as goal

-- version 1 of those that were read
abbrev pub invariant-loop-checked : goal.invariant-loop-checked
invariant-loop-checked l = l.pairs.items ≡ map (λ x. (x.«module».name, 1)) (take l.checked-index l.checked-items)
