use Rattle.std.proofs.Common.{◌≡◌, length}
use Rattle.edb_stack.specs.Feeding.{first_open}
use Rattle.edb_stack.proofs.operands.Operands.next.Given as goal

abbrev pub invariant-loop-operand : goal.invariant-loop-operand
invariant-loop-operand l = first_open l.rest ≡ first_open l.fn.self.2

abbrev pub decreases-loop-operand : goal.decreases-loop-operand
decreases-loop-operand l = length l.rest
