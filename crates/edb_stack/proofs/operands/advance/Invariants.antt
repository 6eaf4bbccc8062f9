use Rattle.std.proofs.Common.{◌≡◌, ◌≤◌, ◌+◌, ℕ, length, map}
use Rattle.std.specs.Vec.{vec_len, vec_capacity}
use Rattle.edb_lang.specs.Pairs.{Pairs}
use Rattle.edb_syntax.specs.Syntax.{exps_of}
use Rattle.edb_moves.specs.Running.{all_running}
use Rattle.edb_stack.specs.Trees.{before}
use Rattle.edb_stack.specs.Marks.{AllBelow}
use Rattle.edb_stack.specs.Views.{item_of}
use Rattle.edb_stack.specs.Feeding.{first_open}
use Rattle.edb_stack.proofs.operands.advance.Given as goal

abbrev pub invariant-loop-operand : goal.invariant-loop-operand
invariant-loop-operand l =
    (vec_len l.done + length l.rest ≤ vec_capacity l.done)
    × ((bs : Pairs) → before bs (map item_of l.done.items) (all_running (exps_of l.rest)) ≡ before bs (map item_of l.fn.done.items) (all_running (exps_of l.fn.pending)))
    × (first_open l.rest ≡ first_open l.fn.pending)
    × ((n : ℕ) → AllBelow n (map item_of l.fn.done.items) → AllBelow n (map item_of l.done.items))

abbrev pub decreases-loop-operand : goal.decreases-loop-operand
decreases-loop-operand l = length l.rest
