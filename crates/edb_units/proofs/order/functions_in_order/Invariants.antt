use Rattle.std.proofs.Common.{◌≡◌, map, take}
use Rattle.edb_units.proofs.order.functions_in_order.Given as goal

-- those that were read
abbrev pub invariant-loop-function : goal.invariant-loop-function
invariant-loop-function l = map (λ x. x.now) l.ordered.items ≡ take l.function-index l.functions
