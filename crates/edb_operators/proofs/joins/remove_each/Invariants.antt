use Rattle.std.proofs.Common.{◌≡◌, map, take, fold}
use Rattle.edb_pure.specs.Lists.{without_first}
use Rattle.edb_operators.proofs.joins.remove_each.Given as goal

abbrev pub invariant-loop-item : goal.invariant-loop-item
invariant-loop-item l = map (λ t. t.now) l.rest.items ≡ fold (λ ts u. without_first u ts) (map (λ t. t.now) l.fn.rest.items) (map (λ t. t.now) (take l.item-index l.items))
