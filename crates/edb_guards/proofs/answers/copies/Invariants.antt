use Rattle.std.proofs.Common.{◌≡◌, map, take}
use Rattle.edb_guards.proofs.answers.copies.Given as goal

abbrev pub invariant-loop-operand : goal.invariant-loop-operand
invariant-loop-operand l = l.copies.items ≡ map (λ t. t.now) (take l.operand-index l.operands)
