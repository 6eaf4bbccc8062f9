use Rattle.std.proofs.Common.{refl, arith}
use Rattle.edb_syntax.specs.Syntax.{exps_of}
use Rattle.edb_check.specs.GuardRules.{misplaced, all_misplaced}
use Rattle.edb_check.specs.Walking.{only}
use Rattle.edb_check.proofs.Going.{goes_on}
use Rattle.edb_check.proofs.walk.Walk.+misplaced.Goals as goal

pub all_misplaced-loop-expr-preserved : goal.all_misplaced-loop-expr-preserved
all_misplaced-loop-expr-preserved t c =
    goes_on (λ bs es. only (all_misplaced c.args.known.now (exps_of es))) (only (misplaced c.args.known.now c.expr-item.result)) c.args.exprs.now c.loop-expr.expr-index
    c.expr-item.result c.expr-item.is (omega arith) c.misplaced.ensures refl c.loop-expr.invariant
