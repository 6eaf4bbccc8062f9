use Rattle.std.proofs.Common.{◌≡◌, ◌∷◌, Some, ap, sym, subst, ◌∙◌}
use Rattle.edb_syntax.specs.Syntax.{exps_of}
use Rattle.edb_moves.specs.Running.{value_of, running, all_running}
use Rattle.edb_stack.specs.Feeding.{first_open, operands_layer, fed_tree, fed_code, FedBelow}
use Rattle.edb_path.proofs.StepLaws.{doing_done, open_found, may_stand}
use Rattle.edb_path.proofs.steps.step_to_operand.Goals as goal

pub returns-in-Full-clause-tree : goal.returns-in-Full-clause-tree
returns-in-Full-clause-tree c = λ bs.
    ap (fed_tree bs) (sym c.in-Full.is) ∙ c.in_ok-doing.ensures.tree bs
    ∙ doing_done c.in-Some.doing c.args.operation.now (all_running (exps_of c.args.operands.now)) c.in-Some.ensures.0 c.in-Some.ensures.1

pub returns-in-Full-clause-below : goal.returns-in-Full-clause-below
returns-in-Full-clause-below c = λ n. subst (FedBelow n) c.in-Full.is (c.in_ok-doing.ensures.below n)

pub returns-in-Hole-clause-tree : goal.returns-in-Hole-clause-tree
returns-in-Hole-clause-tree c = λ bs.
    ap (fed_tree bs) (sym c.in-Hole.is) ∙ c.in_ok-doing.ensures.tree bs
    ∙ doing_done c.in-Some.doing c.args.operation.now (all_running (exps_of c.args.operands.now)) c.in-Some.ensures.0 c.in-Some.ensures.1

pub returns-in-Hole-clause-below : goal.returns-in-Hole-clause-below
returns-in-Hole-clause-below c = λ n. subst (FedBelow n) c.in-Hole.is (c.in_ok-doing.ensures.below n)

-- the operand in the hole is the first that is no literal
is_first : (c : goal.In-Hole) → first_open c.args.operands.now ≡ Some c.in-Hole.operand.now
is_first c = sym c.in_ok-doing.ensures.code ∙ ap fed_code c.in-Hole.is

pub returns-in-Hole-clause-stands : goal.returns-in-Hole-clause-stands
returns-in-Hole-clause-stands c = λ ls. may_stand (operands_layer c.in-Hole.operands ∷ ls) (value_of (running c.in-Hole.operand.now)) (open_found c.args.operands.now c.in-Hole.operand.now (is_first c)).0

pub returns-in-Hole-clause-shrinks : goal.returns-in-Hole-clause-shrinks
returns-in-Hole-clause-shrinks c = (open_found c.args.operands.now c.in-Hole.operand.now (is_first c)).1
