use Rattle.std.proofs.Common.{◌≡◌, map, drop}
use Rattle.edb_small.specs.Conditions.{is_among}
use Rattle.edb_small.proofs.scope.Scope.has.Given as goal

-- the name is among those that are left where it is among all
abbrev pub invariant-loop-bound : goal.invariant-loop-bound
invariant-loop-bound l = is_among l.name (map (λ name. name.now) (drop l.bound-index l.bound-items)) ≡ is_among l.name (map (λ name. name.now) l.bound-items)
