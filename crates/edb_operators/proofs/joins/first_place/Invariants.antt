use Rattle.std.proofs.Common.{◌≡◌, ◌++◌, map, take, drop}
use Rattle.edb_pure.specs.Lists.{without_first}
use Rattle.edb_operators.proofs.joins.first_place.Given as goal

-- nothing before this place is removed
abbrev pub invariant-loop-place : goal.invariant-loop-place
invariant-loop-place l = without_first l.item (map (λ t. t.now) l.items) ≡ take l.place (map (λ t. t.now) l.items) ++ without_first l.item (drop l.place (map (λ t. t.now) l.items))
