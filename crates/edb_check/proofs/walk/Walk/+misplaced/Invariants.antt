use Rattle.std.proofs.Common.{drop}
use Rattle.edb_syntax.specs.Syntax.{exps_of}
use Rattle.edb_check.specs.GuardRules.{all_misplaced}
use Rattle.edb_check.specs.Walking.{Goes, only}
use Rattle.edb_check.proofs.walk.Walk.+misplaced.Given as goal

abbrev pub invariant-all_misplaced-loop-expr : goal.invariant-all_misplaced-loop-expr
invariant-all_misplaced-loop-expr l =
    Goes l.initial.self l.self (only (all_misplaced l.known (exps_of l.exprs))) (only (all_misplaced l.known (exps_of (drop l.expr-index l.exprs))))
