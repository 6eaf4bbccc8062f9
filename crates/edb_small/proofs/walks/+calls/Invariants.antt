use Rattle.std.proofs.Common.{◌≡◌, drop}
use Rattle.edb_lang.specs.Syntax.{exps_of}
use Rattle.edb_small.specs.Conditions.{all_calls_known}
use Rattle.edb_small.proofs.walks.+calls.Given as goal

abbrev pub invariant-all_calls_known-loop-expr : goal.invariant-all_calls_known-loop-expr
invariant-all_calls_known-loop-expr l = all_calls_known l.functions (exps_of (drop l.expr-index l.exprs)) ≡ all_calls_known l.functions (exps_of l.exprs)
