use Rattle.std.proofs.Common.{◌≡◌, ◌+◌, ◌*◌, ◌≤◌}
use Rattle.std.specs.Option.{is_some}
use Rattle.edb_lang.specs.Syntax.{nodes}
use Rattle.edb_model.specs.Running.{values_of}
use Rattle.edb_eval.specs.Glances.{first_redex, known_nodes, cursor_runs, cursor_nodes, count_runs}
use Rattle.edb_eval.proofs.glance.+glance.Given as goal

abbrev pub decreases-code_glance : goal.decreases-code_glance
decreases-code_glance l = 3 * nodes l.code.now

abbrev pub decreases-known_glance : goal.decreases-known_glance
decreases-known_glance l = 3 * known_nodes l.operand + 1

abbrev pub decreases-operands_glance : goal.decreases-operands_glance
decreases-operands_glance l = 3 * cursor_nodes l.operands + 2

abbrev pub invariant-operands_glance-loop-operand : goal.invariant-operands_glance-loop-operand
invariant-operands_glance-loop-operand l = record {
  same : first_redex (cursor_runs l.left) ≡ first_redex (cursor_runs l.operands);
  some : is_some (values_of (cursor_runs l.left)) ≡ is_some (values_of (cursor_runs l.operands));
  nodes : cursor_nodes l.left ≤ cursor_nodes l.operands;
}

abbrev pub decreases-operands_glance-loop-operand : goal.decreases-operands_glance-loop-operand
decreases-operands_glance-loop-operand l = count_runs (cursor_runs l.left)
