use Rattle.std.proofs.Common.{◌≡◌, drop}
use Rattle.std.specs.Prelude.{nat_le}
use Rattle.edb_lang.specs.Syntax.{exps_of}
use Rattle.edb_small.specs.Conditions.{all_depth}
use Rattle.edb_small.proofs.walks.+depth.Given as goal

abbrev pub invariant-are_within-loop-expr : goal.invariant-are_within-loop-expr
invariant-are_within-loop-expr l = nat_le (all_depth (exps_of (drop l.expr-index l.exprs))) l.levels ≡ nat_le (all_depth (exps_of l.exprs)) l.levels
