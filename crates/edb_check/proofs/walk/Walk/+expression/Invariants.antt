-- What the loops of the walk keep, and what its recursion goes down: the size of what is gone through.

use Rattle.std.proofs.Common.{◌≡◌, ◌+◌, ◌*◌, ◌≤◌, ◌||◌, length, drop}
use Rattle.std.specs.Prelude.{fold}
use Rattle.edb_syntax.specs.Syntax.{exps_of, guards_of, clauses_of, catches_of, qualifiers_of}
use Rattle.edb_syntax.specs.Views.{after_of}
use Rattle.edb_syntax.specs.Sizes.{size, sizes, sequence_size, after_size, alternatives_size, clause_size, clauses_size, catch_size, catches_size, qualifier_size, qualifiers_size}
use Rattle.edb_check.specs.Scopes.{any_share}
use Rattle.edb_check.specs.Binds.{ways, catch_ways}
use Rattle.edb_check.specs.Names.{operands}
use Rattle.edb_check.specs.Joins.{with_way}
use Rattle.edb_check.specs.Parts.{operands_part, tests_part, guard_part, clauses_part, heads_part, catches_part, qualifiers_part}
use Rattle.edb_check.specs.Walking.{Goes}
use Rattle.edb_check.proofs.Clashes.{clash}
use Rattle.edb_check.proofs.walk.Walk.+expression.Given as goal

abbrev pub decreases-expr : goal.decreases-expr
decreases-expr l = 8 * size l.expr.now

abbrev pub decreases-exprs : goal.decreases-exprs
decreases-exprs l = 8 * sizes (exps_of l.exprs.now) + 1

abbrev pub decreases-sequence : goal.decreases-sequence
decreases-sequence l = 8 * sequence_size l.sequence.now

abbrev pub decreases-caught : goal.decreases-caught
decreases-caught l = 8 * size l.expr.now + 1

abbrev pub decreases-apply : goal.decreases-apply
decreases-apply l = 8 * sizes (exps_of l.operands.now) + 4

abbrev pub decreases-operands : goal.decreases-operands
decreases-operands l = 8 * sizes (exps_of l.operands.now) + 3

abbrev pub decreases-operand : goal.decreases-operand
decreases-operand l = 8 * size l.operand.now + 1

abbrev pub decreases-either : goal.decreases-either
decreases-either l = 8 * (size l.left.now + size l.right.now) + 4

abbrev pub decreases-guard : goal.decreases-guard
decreases-guard l = 8 * alternatives_size l.guard.now + 5

abbrev pub decreases-alternative : goal.decreases-alternative
decreases-alternative l = 8 * sizes l.alternative.now + 4

abbrev pub decreases-test : goal.decreases-test
decreases-test l = 8 * size l.test.now + 2

abbrev pub decreases-clause : goal.decreases-clause
decreases-clause l = 8 * clause_size l.clause.now + 1

abbrev pub decreases-way : goal.decreases-way
decreases-way l = 8 * clause_size l.clause.now + 2

abbrev pub decreases-ways : goal.decreases-ways
decreases-ways l = 8 * clauses_size (clauses_of l.clauses.now) + 3

abbrev pub decreases-choice : goal.decreases-choice
decreases-choice l = 8 * clauses_size (clauses_of l.clauses.now) + 4

abbrev pub decreases-aside : goal.decreases-aside
decreases-aside l = 8 * sequence_size l.sequence.now + 1

abbrev pub decreases-timed_choice : goal.decreases-timed_choice
decreases-timed_choice l = 8 * (clauses_size (clauses_of l.clauses.now) + sequence_size l.body.now) + 4

abbrev pub decreases-catch_clause : goal.decreases-catch_clause
decreases-catch_clause l = 8 * catch_size l.clause.now + 1

abbrev pub decreases-catch_way : goal.decreases-catch_way
decreases-catch_way l = 8 * catch_size l.clause.now + 2

abbrev pub decreases-catch_ways : goal.decreases-catch_ways
decreases-catch_ways l = 8 * catches_size (catches_of l.clauses.now) + 3

abbrev pub decreases-after : goal.decreases-after
decreases-after l = 8 * after_size (after_of l.after.now) + 2

abbrev pub decreases-attempt : goal.decreases-attempt
decreases-attempt l = 8 * (((sequence_size l.body.now + clauses_size (clauses_of l.of.now)) + catches_size (catches_of l.catches.now)) + after_size (after_of l.after.now)) + 6

abbrev pub decreases-heads : goal.decreases-heads
decreases-heads l = 8 * clauses_size (clauses_of l.clauses.now) + 3

abbrev pub decreases-head : goal.decreases-head
decreases-head l = 8 * clause_size l.clause.now + 2

abbrev pub decreases-comprehension : goal.decreases-comprehension
decreases-comprehension l = 8 * (size l.value.now + qualifiers_size (qualifiers_of l.qualifiers.now)) + 5

abbrev pub decreases-qualifiers : goal.decreases-qualifiers
decreases-qualifiers l = 8 * qualifiers_size (qualifiers_of l.qualifiers.now) + 3

abbrev pub decreases-qualifier : goal.decreases-qualifier
decreases-qualifier l = 8 * qualifier_size l.qualifier.now + 2

abbrev pub decreases-local : goal.decreases-local
decreases-local l = 8 * size l.expr.now + 1

abbrev pub invariant-exprs-loop-expr : goal.invariant-exprs-loop-expr
invariant-exprs-loop-expr l = Goes l.initial.self l.self (operands_part l.known l.initial.self.scope l.exprs) (operands_part l.known l.self.scope (drop l.expr-index l.exprs))

abbrev pub invariant-operands-loop-operand : goal.invariant-operands-loop-operand
invariant-operands-loop-operand l = record {
  within : l.start ≤ length l.self.scope;
  names_within : l.names_start ≤ length l.self.names;
  goes : Goes l.initial.self l.self (operands_part l.known l.initial.self.scope l.operands) (operands_part l.known l.self.scope (drop l.operand-index l.operands));
  shared : (l.shared || clash (drop l.start l.self.scope) (drop l.names_start l.self.names) (operands l.self.scope (exps_of (drop l.operand-index l.operands))))
      ≡ any_share (operands l.initial.self.scope (exps_of l.operands));
}

abbrev pub invariant-guard-loop-alternative : goal.invariant-guard-loop-alternative
invariant-guard-loop-alternative l = Goes l.initial.self l.self (guard_part l.known l.initial.self.scope (guards_of l.alternative-items)) (guard_part l.known l.self.scope (guards_of (drop l.alternative-index l.alternative-items)))

abbrev pub invariant-alternative-loop-test : goal.invariant-alternative-loop-test
invariant-alternative-loop-test l = Goes l.initial.self l.self (tests_part l.known l.initial.self.scope (exps_of l.test-items)) (tests_part l.known l.self.scope (exps_of (drop l.test-index l.test-items)))

abbrev pub invariant-ways-loop-clause : goal.invariant-ways-loop-clause
invariant-ways-loop-clause l = record {
  scope : l.self.scope ≡ l.initial.self.scope;
  goes : Goes l.initial.self l.self (clauses_part l.known l.initial.self.scope l.clauses) (clauses_part l.known l.self.scope (drop l.clause-index l.clauses));
  joined : fold with_way l.joined (ways l.initial.self.scope (clauses_of (drop l.clause-index l.clauses))) ≡ fold with_way l.initial.joined (ways l.initial.self.scope (clauses_of l.clauses));
}

abbrev pub invariant-catch_ways-loop-clause : goal.invariant-catch_ways-loop-clause
invariant-catch_ways-loop-clause l = record {
  scope : l.self.scope ≡ l.initial.self.scope;
  goes : Goes l.initial.self l.self (catches_part l.known l.initial.self.scope l.clauses) (catches_part l.known l.self.scope (drop l.clause-index l.clauses));
  joined : fold with_way l.joined (catch_ways l.initial.self.scope (catches_of (drop l.clause-index l.clauses))) ≡ fold with_way l.initial.joined (catch_ways l.initial.self.scope (catches_of l.clauses));
}

abbrev pub invariant-heads-loop-clause : goal.invariant-heads-loop-clause
invariant-heads-loop-clause l = Goes l.initial.self l.self (heads_part l.known l.initial.self.scope l.clauses) (heads_part l.known l.self.scope (drop l.clause-index l.clauses))

abbrev pub invariant-qualifiers-loop-qualifier : goal.invariant-qualifiers-loop-qualifier
invariant-qualifiers-loop-qualifier l = record {
  within : l.start ≤ length l.self.scope;
  goes : Goes l.initial.self l.self (qualifiers_part l.known l.initial.self.scope (drop l.start l.initial.self.scope) l.qualifiers)
      (qualifiers_part l.known l.self.scope (drop l.start l.self.scope) (drop l.qualifier-index l.qualifiers));
}
