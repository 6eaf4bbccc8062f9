use Rattle.std.proofs.Common.{◌≡◌, drop}
use Rattle.edb_lang.specs.Syntax.{exps_of}
use Rattle.edb_small.specs.Conditions.{are_closed}
use Rattle.edb_small.proofs.walks.+variables.Given as goal

abbrev pub invariant-are_closed-loop-expr : goal.invariant-are_closed-loop-expr
invariant-are_closed-loop-expr l = are_closed l.scope (exps_of (drop l.expr-index l.exprs)) ≡ are_closed l.scope (exps_of l.exprs)
