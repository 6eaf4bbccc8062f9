use Rattle.std.proofs.Common.{length, ◌+◌, ◌*◌}
use Rattle.edb_parse.specs.Cursors.{toks, Stays, Moves}
use Rattle.edb_parse.proofs.Climbing.{Climbs}
use Rattle.edb_scan.specs.declared.lexeme.Mark.TheVariants as mark
use Rattle.edb_syntax.specs.Syntax.{none, more, no_catches, more_catches, no_clauses, more_clauses, no_qualifiers, more_qualifiers, no_guard, alternative}
use Rattle.edb_grammar.specs.ExpressionReading as reading
use Rattle.edb_parse.specs.Descent.{part}
use Rattle.edb_parse.proofs.Turns.{Going}
use Rattle.edb_parse.specs.Handling.{handlers_at}
use Rattle.edb_parse.specs.Heads.{read_headed}
use Rattle.edb_parse.proofs.+expression.Given as goal

abbrev pub decreases-expressions::expression : goal.decreases-expressions::expression
decreases-expressions::expression a = 40 * (a.levels + a.brackets)

abbrev pub decreases-expressions::node : goal.decreases-expressions::node
decreases-expressions::node a = 40 * (a.levels + a.brackets) + 39

abbrev pub decreases-expressions::matched : goal.decreases-expressions::matched
decreases-expressions::matched a = 40 * (a.levels + a.brackets) + 38

abbrev pub decreases-expressions::caught : goal.decreases-expressions::caught
decreases-expressions::caught a = 40 * (a.levels + a.brackets) + 1

abbrev pub decreases-expressions::bound : goal.decreases-expressions::bound
decreases-expressions::bound a = 40 * (a.levels + a.brackets) + 1

abbrev pub decreases-expressions::operated : goal.decreases-expressions::operated
decreases-expressions::operated a = 40 * (a.levels + a.brackets) + 37

abbrev pub decreases-expressions::climb : goal.decreases-expressions::climb
decreases-expressions::climb a = 40 * (a.levels + a.brackets) + 36

abbrev pub decreases-calls::operand : goal.decreases-calls::operand
decreases-calls::operand a = 40 * (a.levels + a.brackets) + 36

abbrev pub decreases-calls::prefixed : goal.decreases-calls::prefixed
decreases-calls::prefixed a = 40 * (a.levels + a.brackets) + 1

abbrev pub decreases-calls::call : goal.decreases-calls::call
decreases-calls::call a = 40 * (a.levels + a.brackets) + 35

abbrev pub decreases-calls::called : goal.decreases-calls::called
decreases-calls::called a = 40 * (a.levels + a.brackets) + 34

abbrev pub decreases-calls::local_call : goal.decreases-calls::local_call
decreases-calls::local_call a = 40 * (a.levels + a.brackets) + 33

abbrev pub decreases-calls::remote_call : goal.decreases-calls::remote_call
decreases-calls::remote_call a = 40 * (a.levels + a.brackets) + 33

abbrev pub decreases-calls::arguments : goal.decreases-calls::arguments
decreases-calls::arguments a = 40 * (a.levels + a.brackets) + 32

abbrev pub decreases-primaries::primary : goal.decreases-primaries::primary
decreases-primaries::primary a = 40 * (a.levels + a.brackets) + 31

abbrev pub decreases-primaries::marked : goal.decreases-primaries::marked
decreases-primaries::marked a = 40 * (a.levels + a.brackets) + 30

abbrev pub decreases-primaries::tuple : goal.decreases-primaries::tuple
decreases-primaries::tuple a = 40 * (a.levels + a.brackets) + 29

abbrev pub decreases-primaries::parentheses : goal.decreases-primaries::parentheses
decreases-primaries::parentheses a = 40 * (a.levels + a.brackets) + 29

abbrev pub decreases-primaries::begin : goal.decreases-primaries::begin
decreases-primaries::begin a = 40 * (a.levels + a.brackets) + 29

abbrev pub decreases-lists::bracketed : goal.decreases-lists::bracketed
decreases-lists::bracketed a = 40 * (a.levels + a.brackets) + 29

abbrev pub decreases-lists::comprehension : goal.decreases-lists::comprehension
decreases-lists::comprehension a = 40 * (a.levels + a.brackets) + 28

abbrev pub decreases-lists::list_end : goal.decreases-lists::list_end
decreases-lists::list_end a = 40 * (a.levels + a.brackets) + 15

abbrev pub decreases-lists::elements : goal.decreases-lists::elements
decreases-lists::elements a = 40 * (a.levels + a.brackets) + 15

abbrev pub decreases-lists::until : goal.decreases-lists::until
decreases-lists::until a = 40 * (a.levels + a.brackets) + 15

abbrev pub decreases-lists::all : goal.decreases-lists::all
decreases-lists::all a = 40 * (a.levels + a.brackets) + 14

abbrev pub decreases-choices::case : goal.decreases-choices::case
decreases-choices::case a = 40 * (a.levels + a.brackets) + 29

abbrev pub decreases-choices::conditions : goal.decreases-choices::conditions
decreases-choices::conditions a = 40 * (a.levels + a.brackets) + 29

abbrev pub decreases-choices::receive : goal.decreases-choices::receive
decreases-choices::receive a = 40 * (a.levels + a.brackets) + 29

abbrev pub decreases-choices::attempt : goal.decreases-choices::attempt
decreases-choices::attempt a = 40 * (a.levels + a.brackets) + 29

abbrev pub decreases-choices::timeout : goal.decreases-choices::timeout
decreases-choices::timeout a = 40 * (a.levels + a.brackets) + 28

abbrev pub decreases-choices::of : goal.decreases-choices::of
decreases-choices::of a = 40 * (a.levels + a.brackets) + 28

abbrev pub decreases-choices::caught : goal.decreases-choices::caught
decreases-choices::caught a = 40 * (a.levels + a.brackets) + 28

abbrev pub decreases-choices::afterwards : goal.decreases-choices::afterwards
decreases-choices::afterwards a = 40 * (a.levels + a.brackets) + 28

abbrev pub decreases-funs::fun : goal.decreases-funs::fun
decreases-funs::fun a = 40 * (a.levels + a.brackets) + 29

abbrev pub decreases-funs::fun_clauses : goal.decreases-funs::fun_clauses
decreases-funs::fun_clauses a = 40 * (a.levels + a.brackets) + 28

abbrev pub decreases-handlers::handlers : goal.decreases-handlers::handlers
decreases-handlers::handlers a = 40 * (a.levels + a.brackets) + 27

abbrev pub decreases-handlers::handler : goal.decreases-handlers::handler
decreases-handlers::handler a = 40 * (a.levels + a.brackets) + 26

abbrev pub decreases-handlers::classed : goal.decreases-handlers::classed
decreases-handlers::classed a = 40 * (a.levels + a.brackets) + 25

abbrev pub decreases-handlers::thrown : goal.decreases-handlers::thrown
decreases-handlers::thrown a = 40 * (a.levels + a.brackets) + 25

abbrev pub decreases-handlers::headed : goal.decreases-handlers::headed
decreases-handlers::headed a = 40 * (a.levels + a.brackets) + 24

abbrev pub decreases-clauses::clauses : goal.decreases-clauses::clauses
decreases-clauses::clauses a = 40 * (a.levels + a.brackets) + 23

abbrev pub decreases-clauses::clause : goal.decreases-clauses::clause
decreases-clauses::clause a = 40 * (a.levels + a.brackets) + 22

abbrev pub decreases-clauses::pattern_clause : goal.decreases-clauses::pattern_clause
decreases-clauses::pattern_clause a = 40 * (a.levels + a.brackets) + 21

abbrev pub decreases-clauses::guard_clause : goal.decreases-clauses::guard_clause
decreases-clauses::guard_clause a = 40 * (a.levels + a.brackets) + 21

abbrev pub decreases-clauses::named_clause : goal.decreases-clauses::named_clause
decreases-clauses::named_clause a = 40 * (a.levels + a.brackets) + 21

abbrev pub decreases-clauses::parameters_clause : goal.decreases-clauses::parameters_clause
decreases-clauses::parameters_clause a = 40 * (a.levels + a.brackets) + 20

abbrev pub decreases-qualifiers::qualifiers : goal.decreases-qualifiers::qualifiers
decreases-qualifiers::qualifiers a = 40 * (a.levels + a.brackets) + 23

abbrev pub decreases-qualifiers::qualifier : goal.decreases-qualifiers::qualifier
decreases-qualifiers::qualifier a = 40 * (a.levels + a.brackets) + 22

abbrev pub decreases-bodies::guarded : goal.decreases-bodies::guarded
decreases-bodies::guarded a = 40 * (a.levels + a.brackets) + 19

abbrev pub decreases-bodies::guard : goal.decreases-bodies::guard
decreases-bodies::guard a = 40 * (a.levels + a.brackets) + 18

abbrev pub decreases-bodies::tests : goal.decreases-bodies::tests
decreases-bodies::tests a = 40 * (a.levels + a.brackets) + 17

abbrev pub decreases-bodies::body : goal.decreases-bodies::body
decreases-bodies::body a = 40 * (a.levels + a.brackets) + 16

abbrev pub invariant-expressions::climb-loop-operator : goal.invariant-expressions::climb-loop-operator
invariant-expressions::climb-loop-operator l = Climbs l.levels l.brackets l.loosest l.line l.fn.first.value (toks l.tokens) l.level l.left.value (toks l.rest) ×
    Stays l.tokens l.rest

abbrev pub decreases-expressions::climb-loop-operator : goal.decreases-expressions::climb-loop-operator
decreases-expressions::climb-loop-operator l = length l.rest.tokens.now

abbrev pub invariant-lists::all-loop-after : goal.invariant-lists::all-loop-after
invariant-lists::all-loop-after l =
    Going more none mark.Comma (part l.levels l.brackets) (reading.read_all (part l.levels l.brackets) (toks l.tokens)) l.exprs.items (toks l.rest)
    × Moves l.tokens l.rest

abbrev pub decreases-lists::all-loop-after : goal.decreases-lists::all-loop-after
decreases-lists::all-loop-after l = length l.rest.tokens.now

abbrev pub invariant-handlers::handlers-loop-after : goal.invariant-handlers::handlers-loop-after
invariant-handlers::handlers-loop-after l = Going more_catches no_catches mark.Semicolon (reading.read_handler l.levels (part l.levels l.brackets))
    (handlers_at l.levels l.brackets (toks l.tokens)) l.handlers.items (toks l.rest) × Moves l.tokens l.rest

abbrev pub decreases-handlers::handlers-loop-after : goal.decreases-handlers::handlers-loop-after
decreases-handlers::handlers-loop-after l = length l.rest.tokens.now

abbrev pub invariant-clauses::clauses-loop-after : goal.invariant-clauses::clauses-loop-after
invariant-clauses::clauses-loop-after l = Going more_clauses no_clauses mark.Semicolon (read_headed l.levels l.brackets l.head) (reading.read_clauses
    (read_headed l.levels l.brackets l.head) (toks l.tokens)) l.clauses.items (toks l.rest) × Moves l.tokens l.rest

abbrev pub decreases-clauses::clauses-loop-after : goal.decreases-clauses::clauses-loop-after
decreases-clauses::clauses-loop-after l = length l.rest.tokens.now

abbrev pub invariant-qualifiers::qualifiers-loop-after : goal.invariant-qualifiers::qualifiers-loop-after
invariant-qualifiers::qualifiers-loop-after l = Going more_qualifiers no_qualifiers mark.Comma (reading.read_qualifier l.levels (part l.levels
    l.brackets)) (reading.read_qualifiers l.levels (part l.levels l.brackets) (toks l.tokens)) l.qualifiers.items (toks l.rest) × Moves l.tokens l.rest

abbrev pub decreases-qualifiers::qualifiers-loop-after : goal.decreases-qualifiers::qualifiers-loop-after
decreases-qualifiers::qualifiers-loop-after l = length l.rest.tokens.now

abbrev pub invariant-bodies::guard-loop-after : goal.invariant-bodies::guard-loop-after
invariant-bodies::guard-loop-after l = Going alternative no_guard mark.Semicolon (reading.read_all (part l.levels l.brackets)) (reading.read_guard
    (part l.levels l.brackets) (toks l.tokens)) l.alternatives.items (toks l.rest) × Moves l.tokens l.rest

abbrev pub decreases-bodies::guard-loop-after : goal.decreases-bodies::guard-loop-after
decreases-bodies::guard-loop-after l = length l.rest.tokens.now

abbrev pub invariant-bodies::tests-loop-after : goal.invariant-bodies::tests-loop-after
invariant-bodies::tests-loop-after l = Going more none mark.Comma (part l.levels l.brackets) (reading.read_all (part l.levels l.brackets) (toks
    l.tokens)) l.tests.items (toks l.rest) × Moves l.tokens l.rest

abbrev pub decreases-bodies::tests-loop-after : goal.decreases-bodies::tests-loop-after
decreases-bodies::tests-loop-after l = length l.rest.tokens.now
