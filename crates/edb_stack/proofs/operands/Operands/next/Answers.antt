use Rattle.std.proofs.Common.{rules, ◌≡◌, ◌∷◌, true, false, is_some, ap, sym, ◌∙◌}
use Rattle.edb_moves.specs.Running.{value_of, running}
use Rattle.edb_stack.specs.Feeding.{first_open}
use Rattle.edb_stack.proofs.FeedLaws.{literal_passed, open_found}
use Rattle.edb_stack.proofs.operands.Operands.next.Goals as goal

pub loop-operand-preserved : goal.loop-operand-preserved
loop-operand-preserved c =
    let split : c.loop-operand.rest.now ≡ c.in-Some.operand.now ∷ c.in-Some.behind.now = search rules in
    let is : true ≡ is_some (value_of (running c.in-Some.operand.now)) = search rules in
    sym (literal_passed c.in-Some.operand.now (value_of (running c.in-Some.operand.now)) (first_open c.in-Some.behind.now) is) ∙ ap first_open (sym split) ∙ c.loop-operand.invariant

pub returns-then-not-is_literal : goal.returns-then-not-is_literal
returns-then-not-is_literal c =
    let split : c.loop-operand.rest.now ≡ c.in-Some.operand.now ∷ c.in-Some.behind.now = search rules in
    let is : false ≡ is_some (value_of (running c.in-Some.operand.now)) = search rules in
    sym (open_found c.in-Some.operand.now (value_of (running c.in-Some.operand.now)) (first_open c.in-Some.behind.now) is).0 ∙ ap first_open (sym split) ∙ c.loop-operand.invariant
