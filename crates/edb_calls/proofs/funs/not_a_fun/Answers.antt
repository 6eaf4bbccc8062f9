use Rattle.edb_lang.specs.Terms.{nil}
use Rattle.edb_moves.specs.Going.{outside}
use Rattle.edb_calls.proofs.FunLaws.{ok_alone}
use Rattle.edb_calls.proofs.funs.not_a_fun.Goals as goal

pub returns-clause-alone : goal.returns-clause-alone
returns-clause-alone c = ok_alone c.failing_with.result (outside 0) nil _ _ (c.failing_with.ensures.effect (outside 0) nil)
