use Rattle.edb_path.proofs.steps.step_down.Goals as goal

pub returns-in-Apply-clause-stands : goal.returns-in-Apply-clause-stands
returns-in-Apply-clause-stands c = λ ls m. c.step_to_operand.ensures.stands ls
