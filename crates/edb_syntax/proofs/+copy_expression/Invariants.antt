use Rattle.std.proofs.Common.{◌≡◌, take}
use Rattle.edb_syntax.proofs.+copy_expression.Given as goal

abbrev pub invariant-clause::copy_catches-loop-clause : goal.invariant-clause::copy_catches-loop-clause
invariant-clause::copy_catches-loop-clause l = l.copies.items ≡ take l.clause-index l.catches

abbrev pub invariant-clause::copy_clauses-loop-clause : goal.invariant-clause::copy_clauses-loop-clause
invariant-clause::copy_clauses-loop-clause l = l.copies.items ≡ take l.clause-index l.clauses

abbrev pub invariant-expression::copy_exprs-loop-expr : goal.invariant-expression::copy_exprs-loop-expr
invariant-expression::copy_exprs-loop-expr l = l.copies.items ≡ take l.expr-index l.exprs

abbrev pub invariant-guard::Alternative::copy-loop-test : goal.invariant-guard::Alternative::copy-loop-test
invariant-guard::Alternative::copy-loop-test l = l.tests.items ≡ take l.test-index l.test-items

abbrev pub invariant-guard::Guard::copy-loop-alternative : goal.invariant-guard::Guard::copy-loop-alternative
invariant-guard::Guard::copy-loop-alternative l = l.alternatives.items ≡ take l.alternative-index l.alternative-items

abbrev pub invariant-qualifier::copy_qualifiers-loop-qualifier : goal.invariant-qualifier::copy_qualifiers-loop-qualifier
invariant-qualifier::copy_qualifiers-loop-qualifier l = l.copies.items ≡ take l.qualifier-index l.qualifiers
