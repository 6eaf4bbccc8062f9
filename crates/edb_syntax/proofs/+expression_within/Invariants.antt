use Rattle.std.proofs.Common.{◌≡◌, drop}
use Rattle.std.specs.Prelude.{nat_le}
use Rattle.edb_syntax.specs.Syntax.{exps_of, guards_of, clauses_of, catches_of, qualifiers_of}
use Rattle.edb_syntax.specs.Depths.{depths, guard_depth, clauses_depth, catches_depth, qualifiers_depth}
use Rattle.edb_syntax.proofs.+expression_within.Given as goal

abbrev pub invariant-clause::catches_within-loop-clause : goal.invariant-clause::catches_within-loop-clause
invariant-clause::catches_within-loop-clause l = nat_le (catches_depth (catches_of (drop l.clause-index l.catches))) l.levels ≡ nat_le (catches_depth (catches_of l.catches)) l.levels

abbrev pub invariant-clause::clauses_within-loop-clause : goal.invariant-clause::clauses_within-loop-clause
invariant-clause::clauses_within-loop-clause l = nat_le (clauses_depth (clauses_of (drop l.clause-index l.clauses))) l.levels ≡ nat_le (clauses_depth (clauses_of l.clauses)) l.levels

abbrev pub invariant-expression::exprs_within-loop-expr : goal.invariant-expression::exprs_within-loop-expr
invariant-expression::exprs_within-loop-expr l = nat_le (depths (exps_of (drop l.expr-index l.exprs))) l.levels ≡ nat_le (depths (exps_of l.exprs)) l.levels

abbrev pub invariant-guard::Alternative::is_within-loop-test : goal.invariant-guard::Alternative::is_within-loop-test
invariant-guard::Alternative::is_within-loop-test l = nat_le (depths (exps_of (drop l.test-index l.test-items))) l.levels ≡ nat_le (depths (exps_of l.test-items)) l.levels

abbrev pub invariant-guard::Guard::is_within-loop-alternative : goal.invariant-guard::Guard::is_within-loop-alternative
invariant-guard::Guard::is_within-loop-alternative l = nat_le (guard_depth (guards_of (drop l.alternative-index l.alternative-items))) l.levels ≡ nat_le (guard_depth (guards_of l.alternative-items)) l.levels

abbrev pub invariant-qualifier::qualifiers_within-loop-qualifier : goal.invariant-qualifier::qualifiers_within-loop-qualifier
invariant-qualifier::qualifiers_within-loop-qualifier l = nat_le (qualifiers_depth (qualifiers_of (drop l.qualifier-index l.qualifiers))) l.levels ≡ nat_le (qualifiers_depth (qualifiers_of l.qualifiers)) l.levels
