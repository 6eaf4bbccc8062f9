use Rattle.std.proofs.Common.{◌≡◌, map, take}
use Rattle.edb_units.proofs.order.exports_in_order.Given as goal

-- those that were read
abbrev pub invariant-loop-export : goal.invariant-loop-export
invariant-loop-export l = map (λ x. x.now) l.ordered.items ≡ take l.export-index l.exports
