use Rattle.std.proofs.Common.{◌≡◌, ◌++◌, drop}
use Rattle.edb_syntax.specs.Syntax.{exps_of, clauses_of, catches_of, qualifiers_of}
use Rattle.edb_check.specs.Stops.{operands_stops, rest_stops, clauses_stops, catches_stops, qualifiers_stops}
use Rattle.edb_check.proofs.stops.+stops.Given as goal

abbrev pub invariant-operands_stops-loop-operand : goal.invariant-operands_stops-loop-operand
invariant-operands_stops-loop-operand l = l.lines.items ++ operands_stops (exps_of (drop l.operand-index l.operands)) ≡ l.initial.lines.items ++ operands_stops (exps_of l.operands)

abbrev pub invariant-rest_stops-loop-expr : goal.invariant-rest_stops-loop-expr
invariant-rest_stops-loop-expr l = l.lines.items ++ rest_stops (exps_of (drop l.expr-index l.exprs)) ≡ l.initial.lines.items ++ rest_stops (exps_of l.exprs)

abbrev pub invariant-clauses_stops-loop-clause : goal.invariant-clauses_stops-loop-clause
invariant-clauses_stops-loop-clause l = l.lines.items ++ clauses_stops (clauses_of (drop l.clause-index l.clauses)) ≡ l.initial.lines.items ++ clauses_stops (clauses_of l.clauses)

abbrev pub invariant-catches_stops-loop-clause : goal.invariant-catches_stops-loop-clause
invariant-catches_stops-loop-clause l = l.lines.items ++ catches_stops (catches_of (drop l.clause-index l.catches)) ≡ l.initial.lines.items ++ catches_stops (catches_of l.catches)

abbrev pub invariant-qualifiers_stops-loop-qualifier : goal.invariant-qualifiers_stops-loop-qualifier
invariant-qualifiers_stops-loop-qualifier l = l.lines.items ++ qualifiers_stops (qualifiers_of (drop l.qualifier-index l.qualifiers)) ≡ l.initial.lines.items ++ qualifiers_stops (qualifiers_of l.qualifiers)
