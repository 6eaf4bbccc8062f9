use Rattle.std.proofs.Common.{◌≡◌, drop}
use Rattle.edb_syntax.specs.Syntax.{exps_of, clauses_of, catches_of, qualifiers_of}
use Rattle.edb_notyet.specs.Beyond as beyond
use Rattle.edb_notyet.proofs.walk.+beyond.Given as goal

-- what is left decides; likewise below
abbrev pub invariant-some_clause_is_beyond-loop-clause : goal.invariant-some_clause_is_beyond-loop-clause
invariant-some_clause_is_beyond-loop-clause l = beyond.some_clause_is_beyond l.fn.unit (clauses_of (drop l.clause-index l.clauses)) ≡ beyond.some_clause_is_beyond l.fn.unit (clauses_of l.clauses)

abbrev pub invariant-some_expression_is_beyond-loop-expr : goal.invariant-some_expression_is_beyond-loop-expr
invariant-some_expression_is_beyond-loop-expr l = beyond.some_expression_is_beyond l.fn.unit (exps_of (drop l.expr-index l.exprs)) ≡ beyond.some_expression_is_beyond l.fn.unit (exps_of l.exprs)

abbrev pub invariant-some_catch_is_beyond-loop-catch : goal.invariant-some_catch_is_beyond-loop-catch
invariant-some_catch_is_beyond-loop-catch l = beyond.some_catch_is_beyond l.fn.unit (catches_of (drop l.catch-index l.catches)) ≡ beyond.some_catch_is_beyond l.fn.unit (catches_of l.catches)

abbrev pub invariant-some_qualifier_is_beyond-loop-qualifier : goal.invariant-some_qualifier_is_beyond-loop-qualifier
invariant-some_qualifier_is_beyond-loop-qualifier l = beyond.some_qualifier_is_beyond l.fn.unit (qualifiers_of (drop l.qualifier-index l.qualifiers)) ≡ beyond.some_qualifier_is_beyond l.fn.unit (qualifiers_of l.qualifiers)
