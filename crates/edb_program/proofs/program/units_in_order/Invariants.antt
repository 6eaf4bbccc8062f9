use Rattle.std.proofs.Common.{◌≡◌, map, take}
use Rattle.edb_program.proofs.program.units_in_order.Given as goal

-- units of those that were read
abbrev pub invariant-loop-checked : goal.invariant-loop-checked
invariant-loop-checked l = l.ordered.items ≡ map (λ x. x.«module») (take l.checked-index l.checked-items)
