use Rattle.std.proofs.Common.{◌≡◌, ◌++◌, ◌+◌, true, length, drop}
use Rattle.edb_syntax.specs.Syntax.{exps_of, guards_of, clauses_of, catches_of, qualifiers_of}
use Rattle.edb_print.specs.Pieces.{blank, bytes_of}
use Rattle.edb_print.specs.Parts.{all_left, tail_left, guard_left, clauses_left, handlers_left, qualifiers_left}
use Rattle.edb_print.specs.Views.{gap_of, opening_of}
use Rattle.edb_print.proofs.+put_expression.Given as goal

-- in each loop what was put and what is left are all

abbrev pub invariant-expressions::put_items-loop-expr : goal.invariant-expressions::put_items-loop-expr
invariant-expressions::put_items-loop-expr l =
    l.out.items ++ bytes_of (all_left l.first (gap_of l.gap) (gap_of l.next) l.depth (exps_of (drop l.skip (drop l.expr-index l.exprs))))
    ≡ l.fn.out.items ++ bytes_of (all_left l.fn.first (gap_of l.gap) (gap_of l.next) l.depth (exps_of (drop l.fn.skip l.exprs)))

-- the tail is the last one that is left
abbrev pub invariant-expressions::put_with_tail-loop-operand : goal.invariant-expressions::put_with_tail-loop-operand
invariant-expressions::put_with_tail-loop-operand l =
    (l.out.items ++ bytes_of (tail_left l.first l.depth (exps_of (drop l.operand-index l.operands)))
    ≡ l.fn.out.items ++ bytes_of (tail_left true l.depth (exps_of l.operands)))
    × (l.left + l.operand-index ≡ length l.operands)

abbrev pub invariant-clauses::put_tests-loop-test : goal.invariant-clauses::put_tests-loop-test
invariant-clauses::put_tests-loop-test l =
    l.out.items ++ bytes_of (all_left l.first (gap_of l.gap) blank l.depth (exps_of (drop l.test-index l.test-items)))
    ≡ l.fn.out.items ++ bytes_of (all_left true (gap_of l.gap) blank l.depth (exps_of l.test-items))

abbrev pub invariant-clauses::put_guard-loop-alternative : goal.invariant-clauses::put_guard-loop-alternative
invariant-clauses::put_guard-loop-alternative l =
    l.out.items ++ bytes_of (guard_left l.first (gap_of l.gap) l.depth (guards_of (drop l.alternative-index l.alternative-items)))
    ≡ l.fn.out.items ++ bytes_of (guard_left true (gap_of l.gap) l.depth (guards_of l.alternative-items))

abbrev pub invariant-clauses::put_clauses-loop-clause : goal.invariant-clauses::put_clauses-loop-clause
invariant-clauses::put_clauses-loop-clause l =
    l.out.items
    ++ bytes_of (clauses_left l.first (opening_of l.opening) (gap_of l.gap) l.depth l.next (clauses_of (drop l.clause-index l.clauses)))
    ≡ l.fn.out.items ++ bytes_of (clauses_left true (opening_of l.opening) (gap_of l.gap) l.depth l.next (clauses_of l.clauses))

abbrev pub invariant-clauses::put_handlers-loop-clause : goal.invariant-clauses::put_handlers-loop-clause
invariant-clauses::put_handlers-loop-clause l =
    l.out.items ++ bytes_of (handlers_left l.first l.depth (catches_of (drop l.clause-index l.clauses)))
    ≡ l.fn.out.items ++ bytes_of (handlers_left true l.depth (catches_of l.clauses))

abbrev pub invariant-clauses::put_qualifiers-loop-qualifier : goal.invariant-clauses::put_qualifiers-loop-qualifier
invariant-clauses::put_qualifiers-loop-qualifier l =
    l.out.items ++ bytes_of (qualifiers_left l.first l.depth (qualifiers_of (drop l.qualifier-index l.qualifiers)))
    ≡ l.fn.out.items ++ bytes_of (qualifiers_left true l.depth (qualifiers_of l.qualifiers))
