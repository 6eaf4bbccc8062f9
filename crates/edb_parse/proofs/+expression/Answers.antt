use Rattle.std.proofs.Common.{Box, Global, List, Option, sym, subst, suc, length, Err, Some, ◌∙◌, ap, arith}
use Rattle.edb_syntax.specs.Syntax.{Exp, QualifierTree, exps_of, none, more, catches_of, no_catches, more_catches, clauses_of, no_clauses, more_clauses, qualifiers_of, no_qualifiers, more_qualifiers, no_guard, alternative}
use Rattle.edb_grammar.specs.Toks.{Tok}
use Rattle.edb_parse.specs.Cursors.{toks, Moves}
use Rattle.edb_parse.specs.Gives.{Gives}
use Rattle.edb_parse.proofs.Climbing.{operators_behind, climb_ends, climb_too_deep, climb_fails, climb_next}
use Rattle.std.proofs.lemmas.Result.{err_from_is_err_and}
use Rattle.edb_grammar.specs.Operators.{between}
use Rattle.edb_grammar.specs.ExpressionReading as reading
use Rattle.edb_parse.specs.Operating.{infix_from}
use Rattle.edb_parse.proofs.Passing.{failed_on, refused, read_so, moved_so, passed_on}
use Rattle.edb_parse.proofs.Turns.{fewer, moves_on, going_start, going_next, going_fails, going_ends, start_fails}
use Rattle.edb_scan.specs.declared.lexeme.Mark.TheVariants as mark
use Rattle.edb_parse.specs.Descent.{part}
use Rattle.edb_parse.proofs.Gathering.{exps_gathered, catches_gathered, clauses_gathered, qualifiers_gathered, guards_gathered}
use Rattle.edb_parse.specs.Handling.{handlers_at}
use Rattle.edb_parse.specs.Heads.{read_headed}
use Rattle.edb_parse.proofs.+expression.Goals as goal

pub expressions::operated-returns-clause-gives : goal.expressions::operated-returns-clause-gives
expressions::operated-returns-clause-gives t c =
    let P : Option (Exp × List Tok) → Type 0 = λ o. Gives (λ e. e.value) c.climb.result o in
    subst P (sym (operators_behind c.args.levels c.args.brackets c.args.loosest c.line.result (toks c.args.tokens) (toks c.in_ok-first.rest)
    c.in_ok-first.first.value c.line.ensures c.in_ok-first.ensures.gives))
    c.climb.ensures.gives

pub expressions::climb-returns-in_err-shallow-clause-gives : goal.expressions::climb-returns-in_err-shallow-clause-gives
expressions::climb-returns-in_err-shallow-clause-gives t c =
    let err = err_from_is_err_and c.from_residual.result c.from_residual.ensures.1 in
    let n = c.args.levels in
    let m = c.args.brackets in
    let l = c.args.loosest in
    refused (λ e. e.value) c.from_residual.result c.in_err-shallow.field-0.0 (reading.climb m n (reading.read_expression n) l c.args.line (suc (length
    (toks c.args.tokens))) 2 c.args.first.value (toks c.args.tokens))
    c.in_err-shallow.ensures.1 (err.1 ∙ ap Err err.2)
    (climb_too_deep n m l c.args.line c.args.first.value (toks c.args.tokens) c.loop-operator.level c.loop-operator.left.value (toks c.loop-operator.rest)
    c.loop-operator.invariant.0
    (infix_from c.in-Some.operator) c.in-Some.ensures.takes.0 c.in-Some.ensures.takes.1 c.in_err-shallow.ensures.0)

pub expressions::climb-returns-in_err-operand-clause-gives : goal.expressions::climb-returns-in_err-operand-clause-gives
expressions::climb-returns-in_err-operand-clause-gives t c =
    let err = err_from_is_err_and c.from_residual-in_err-operand.result c.from_residual-in_err-operand.ensures.1 in
    let n = c.args.levels in
    let m = c.args.brackets in
    let l = c.args.loosest in
    failed_on (λ e. e.value) (λ e. e.value) c.expression-right.result c.from_residual-in_err-operand.result c.in_err-operand.field-0.0 (reading.read_expression n
    m c.right.result (toks c.in-Some.after))
    (reading.climb m n (reading.read_expression n) l c.args.line (suc (length (toks c.args.tokens))) 2 c.args.first.value (toks c.args.tokens))
    c.expression-right.ensures.gives c.in_err-operand.ensures (err.1 ∙ ap Err err.2)
    (λ none_there. climb_fails n m l c.args.line c.args.first.value (toks c.args.tokens) c.loop-operator.level c.loop-operator.left.value (toks
    c.loop-operator.rest) c.loop-operator.invariant.0
    (infix_from c.in-Some.operator) c.in-Some.ensures.takes.0 c.in-Some.ensures.takes.1 c.in_ok-shallow.ensures.1
    (ap (λ r. reading.read_expression n m r (reading.tail (toks c.loop-operator.rest))) (sym c.right.ensures)
    ∙ (ap (reading.read_expression n m c.right.result) c.in-Some.ensures.takes.2 ∙ none_there)))

pub expressions::climb-loop-operator-preserved : goal.expressions::climb-loop-operator-preserved
expressions::climb-loop-operator-preserved t c =
    let n = c.args.levels in
    let m = c.args.brackets in
    let l = c.args.loosest in
    let o = infix_from c.in-Some.operator in
    let there = read_so (λ e. e.value) c.expression-right.result c.in_ok-operand.right c.in_ok-operand.behind (reading.read_expression n m c.right.result
    (toks c.in-Some.after))
    c.expression-right.ensures.gives c.in_ok-operand.ensures.1 in
    let moves : Moves c.in-Some.after c.in_ok-operand.behind = moved_so c.in-Some.after c.expression-right.result c.in_ok-operand.right
    c.in_ok-operand.behind c.expression-right.ensures.moves c.in_ok-operand.ensures.1 in
    let far : Moves c.loop-operator.rest c.in_ok-operand.behind = moves_on c.in-Some.ensures.moves moves in (
      climb_next n m l c.args.line c.args.first.value (toks c.args.tokens) c.loop-operator.level c.loop-operator.left.value (toks c.loop-operator.rest)
          c.loop-operator.invariant.0
          o c.in-Some.ensures.takes.0 c.in-Some.ensures.takes.1 c.in_ok-shallow.ensures.1 c.in_ok-operand.right.value (toks c.in_ok-operand.behind)
          (ap (λ r. reading.read_expression n m r (reading.tail (toks c.loop-operator.rest))) (sym c.right.ensures)
          ∙ (ap (reading.read_expression n m c.right.result) c.in-Some.ensures.takes.2 ∙ there))
          (fewer c.loop-operator.rest c.in_ok-operand.behind far) c.level-level.result c.in_ok-left.left.value c.level-level.ensures
          (c.in_ok-left.ensures ∙ ap (λ d. between c.args.line o d c.in_ok-operand.right.value) (ap (λ x. x.value) c.in_ok-operand.ensures.0 ∙ ap (λ x. x.value) c.in_ok-shallow.ensures.0)),
      record { fewer = omega (arith, c.loop-operator.invariant.1.fewer, far.fewer); funs = omega (arith, c.loop-operator.invariant.1.funs, far.funs) },
    )

pub expressions::climb-returns-clause-gives : goal.expressions::climb-returns-clause-gives
expressions::climb-returns-clause-gives t c =
    climb_ends c.args.levels c.args.brackets c.args.loosest c.args.line c.args.first.value (toks c.args.tokens) c.loop-operator.level c.loop-operator.left.value
    (toks c.loop-operator.rest)
    c.loop-operator.invariant.0 c.in_default.ensures.takes

pub lists::all-loop-after-init : goal.lists::all-loop-after-init
lists::all-loop-after-init t c =
    let read = part c.args.levels c.args.brackets in (
      rw c.in_ok-exprs.ensures.items (going_start more none mark.Comma read (toks c.args.tokens) (toks c.in_ok-first.behind) c.in_ok-first.first.value
          c.in_ok-first.ensures.gives
          (fewer c.args.tokens c.in_ok-first.behind c.in_ok-first.ensures.moves)),
      c.in_ok-first.ensures.moves,
    )

pub lists::all-returns-in_err-next-clause-gives : goal.lists::all-returns-in_err-next-clause-gives
lists::all-returns-in_err-next-clause-gives t c =
    let err = err_from_is_err_and c.from_residual-in_err-next.result c.from_residual-in_err-next.ensures.1 in
    let read = part c.args.levels c.args.brackets in
    passed_on (λ (e : Box Exp Global). e.value) (λ v. exps_of v.items) c.from_residual-in_err-next.result c.in_err-next.field-0.0 (read (toks c.in-Some.after))
    (reading.read_all read (toks c.args.tokens))
    c.in_err-next.ensures.gives (err.1 ∙ ap Err err.2)
    (λ e. going_fails more none mark.Comma read (reading.read_all read (toks c.args.tokens)) c.loop-after.exprs.items (toks c.loop-after.rest) (toks
    c.in-Some.after) c.loop-after.invariant.0
    c.in-Some.ensures.finds e (fewer c.loop-after.rest c.in-Some.after c.in-Some.ensures.moves))

pub lists::all-loop-after-preserved : goal.lists::all-loop-after-preserved
lists::all-loop-after-preserved t c =
    let read = part c.args.levels c.args.brackets in (
      rw c.in_ok-add.ensures.items (going_next more none mark.Comma read (reading.read_all read (toks c.args.tokens)) c.loop-after.exprs.items (toks
          c.loop-after.rest) (toks c.in-Some.after)
          (toks c.in_ok-next.behind) c.in_ok-next.next.value c.loop-after.invariant.0 c.in-Some.ensures.finds c.in_ok-next.ensures.gives (fewer
          c.loop-after.rest c.in-Some.after c.in-Some.ensures.moves)
          (fewer c.in-Some.after c.in_ok-next.behind c.in_ok-next.ensures.moves)),
      moves_on (moves_on c.loop-after.invariant.1 c.in-Some.ensures.moves) c.in_ok-next.ensures.moves,
    )

pub lists::all-returns-clause-gives : goal.lists::all-returns-clause-gives
lists::all-returns-clause-gives t c =
    let read = part c.args.levels c.args.brackets in
    going_ends more none mark.Comma read (reading.read_all read (toks c.args.tokens)) c.loop-after.exprs.items (toks c.loop-after.rest)
    c.loop-after.invariant.0 c.in_default.ensures.finds
    ∙ ap (λ es. Some (es, toks c.loop-after.rest)) (exps_gathered c.loop-after.exprs.items)

pub handlers::handlers-returns-in_err-first-clause-gives : goal.handlers::handlers-returns-in_err-first-clause-gives
handlers::handlers-returns-in_err-first-clause-gives t c =
    let err = err_from_is_err_and c.from_residual.result c.from_residual.ensures.1 in
    passed_on (λ x. x) (λ v. catches_of v.items) c.from_residual.result c.in_err-first.field-0.0 ((reading.read_handler c.args.levels (part
    c.args.levels c.args.brackets)) (toks c.args.tokens)) (handlers_at c.args.levels c.args.brackets (toks c.args.tokens))
    c.in_err-first.ensures.gives (err.1 ∙ ap Err err.2) (start_fails more_catches no_catches mark.Semicolon (reading.read_handler c.args.levels (part
    c.args.levels c.args.brackets)) (toks c.args.tokens))

pub handlers::handlers-loop-after-init : goal.handlers::handlers-loop-after-init
handlers::handlers-loop-after-init t c = (
  rw c.in_ok-handlers.ensures.items (going_start more_catches no_catches mark.Semicolon (reading.read_handler c.args.levels (part c.args.levels
      c.args.brackets)) (toks c.args.tokens) (toks c.in_ok-first.behind) c.in_ok-first.first c.in_ok-first.ensures.gives
      (fewer c.args.tokens c.in_ok-first.behind c.in_ok-first.ensures.moves)),
  c.in_ok-first.ensures.moves,
)

pub handlers::handlers-returns-in_err-next-clause-gives : goal.handlers::handlers-returns-in_err-next-clause-gives
handlers::handlers-returns-in_err-next-clause-gives t c =
    let err = err_from_is_err_and c.from_residual-in_err-next.result c.from_residual-in_err-next.ensures.1 in
    passed_on (λ x. x) (λ v. catches_of v.items) c.from_residual-in_err-next.result c.in_err-next.field-0.0 ((reading.read_handler c.args.levels
    (part c.args.levels c.args.brackets)) (toks c.in-Some.after)) (handlers_at c.args.levels c.args.brackets (toks c.args.tokens))
    c.in_err-next.ensures.gives (err.1 ∙ ap Err err.2)
    (λ e. going_fails more_catches no_catches mark.Semicolon (reading.read_handler c.args.levels (part c.args.levels c.args.brackets)) (handlers_at
    c.args.levels c.args.brackets (toks c.args.tokens)) c.loop-after.handlers.items (toks c.loop-after.rest) (toks c.in-Some.after)
    c.loop-after.invariant.0
    c.in-Some.ensures.finds e (fewer c.loop-after.rest c.in-Some.after c.in-Some.ensures.moves))

pub handlers::handlers-loop-after-preserved : goal.handlers::handlers-loop-after-preserved
handlers::handlers-loop-after-preserved t c = (
  rw c.in_ok-push.ensures.items (going_next more_catches no_catches mark.Semicolon (reading.read_handler c.args.levels (part c.args.levels
      c.args.brackets)) (handlers_at c.args.levels c.args.brackets (toks c.args.tokens)) c.loop-after.handlers.items (toks c.loop-after.rest) (toks
      c.in-Some.after)
      (toks c.in_ok-next.behind) c.in_ok-next.next c.loop-after.invariant.0 c.in-Some.ensures.finds c.in_ok-next.ensures.gives (fewer
      c.loop-after.rest c.in-Some.after c.in-Some.ensures.moves)
      (fewer c.in-Some.after c.in_ok-next.behind c.in_ok-next.ensures.moves)),
  moves_on (moves_on c.loop-after.invariant.1 c.in-Some.ensures.moves) c.in_ok-next.ensures.moves,
)

pub handlers::handlers-returns-clause-gives : goal.handlers::handlers-returns-clause-gives
handlers::handlers-returns-clause-gives t c =
    going_ends more_catches no_catches mark.Semicolon (reading.read_handler c.args.levels (part c.args.levels c.args.brackets)) (handlers_at
    c.args.levels c.args.brackets (toks c.args.tokens)) c.loop-after.handlers.items (toks c.loop-after.rest) c.loop-after.invariant.0
    c.in_default.ensures.finds
    ∙ ap (λ xs. Some (xs, toks c.loop-after.rest)) (catches_gathered c.loop-after.handlers.items)

pub clauses::clauses-returns-in_err-first-clause-gives : goal.clauses::clauses-returns-in_err-first-clause-gives
clauses::clauses-returns-in_err-first-clause-gives t c =
    let err = err_from_is_err_and c.from_residual.result c.from_residual.ensures.1 in
    passed_on (λ x. x) (λ v. clauses_of v.items) c.from_residual.result c.in_err-first.field-0.0 ((read_headed c.args.levels c.args.brackets
    c.args.head) (toks c.args.tokens)) (reading.read_clauses (read_headed c.args.levels c.args.brackets c.args.head) (toks c.args.tokens))
    c.in_err-first.ensures.gives (err.1 ∙ ap Err err.2) (start_fails more_clauses no_clauses mark.Semicolon (read_headed c.args.levels
    c.args.brackets c.args.head) (toks c.args.tokens))

pub clauses::clauses-loop-after-init : goal.clauses::clauses-loop-after-init
clauses::clauses-loop-after-init t c = (
  rw c.in_ok-clauses.ensures.items (going_start more_clauses no_clauses mark.Semicolon (read_headed c.args.levels c.args.brackets c.args.head) (toks
      c.args.tokens) (toks c.in_ok-first.behind) c.in_ok-first.first c.in_ok-first.ensures.gives
      (fewer c.args.tokens c.in_ok-first.behind c.in_ok-first.ensures.moves)),
  c.in_ok-first.ensures.moves,
)

pub clauses::clauses-returns-in_err-next-clause-gives : goal.clauses::clauses-returns-in_err-next-clause-gives
clauses::clauses-returns-in_err-next-clause-gives t c =
    let err = err_from_is_err_and c.from_residual-in_err-next.result c.from_residual-in_err-next.ensures.1 in
    passed_on (λ x. x) (λ v. clauses_of v.items) c.from_residual-in_err-next.result c.in_err-next.field-0.0 ((read_headed c.args.levels
    c.args.brackets c.args.head) (toks c.in-Some.after)) (reading.read_clauses (read_headed c.args.levels c.args.brackets c.args.head) (toks
    c.args.tokens))
    c.in_err-next.ensures.gives (err.1 ∙ ap Err err.2)
    (λ e. going_fails more_clauses no_clauses mark.Semicolon (read_headed c.args.levels c.args.brackets c.args.head) (reading.read_clauses
    (read_headed c.args.levels c.args.brackets c.args.head) (toks c.args.tokens)) c.loop-after.clauses.items (toks c.loop-after.rest) (toks
    c.in-Some.after) c.loop-after.invariant.0
    c.in-Some.ensures.finds e (fewer c.loop-after.rest c.in-Some.after c.in-Some.ensures.moves))

pub clauses::clauses-loop-after-preserved : goal.clauses::clauses-loop-after-preserved
clauses::clauses-loop-after-preserved t c = (
  rw c.in_ok-push.ensures.items (going_next more_clauses no_clauses mark.Semicolon (read_headed c.args.levels c.args.brackets c.args.head)
      (reading.read_clauses (read_headed c.args.levels c.args.brackets c.args.head) (toks c.args.tokens)) c.loop-after.clauses.items (toks
      c.loop-after.rest) (toks c.in-Some.after)
      (toks c.in_ok-next.behind) c.in_ok-next.next c.loop-after.invariant.0 c.in-Some.ensures.finds c.in_ok-next.ensures.gives (fewer
      c.loop-after.rest c.in-Some.after c.in-Some.ensures.moves)
      (fewer c.in-Some.after c.in_ok-next.behind c.in_ok-next.ensures.moves)),
  moves_on (moves_on c.loop-after.invariant.1 c.in-Some.ensures.moves) c.in_ok-next.ensures.moves,
)

pub clauses::clauses-returns-clause-gives : goal.clauses::clauses-returns-clause-gives
clauses::clauses-returns-clause-gives t c =
    going_ends more_clauses no_clauses mark.Semicolon (read_headed c.args.levels c.args.brackets c.args.head) (reading.read_clauses (read_headed
    c.args.levels c.args.brackets c.args.head) (toks c.args.tokens)) c.loop-after.clauses.items (toks c.loop-after.rest) c.loop-after.invariant.0
    c.in_default.ensures.finds
    ∙ ap (λ xs. Some (xs, toks c.loop-after.rest)) (clauses_gathered c.loop-after.clauses.items)

pub qualifiers::qualifiers-returns-in_err-first-clause-gives : goal.qualifiers::qualifiers-returns-in_err-first-clause-gives
qualifiers::qualifiers-returns-in_err-first-clause-gives t c =
    let err = err_from_is_err_and c.from_residual.result c.from_residual.ensures.1 in
    passed_on (λ (x : Box QualifierTree Global). x.value) (λ v. qualifiers_of v.items) c.from_residual.result c.in_err-first.field-0.0 ((reading.read_qualifier c.args.levels (part
    c.args.levels c.args.brackets)) (toks c.args.tokens)) (reading.read_qualifiers c.args.levels (part c.args.levels c.args.brackets) (toks c.args.tokens))
    c.in_err-first.ensures.gives (err.1 ∙ ap Err err.2) (start_fails more_qualifiers no_qualifiers mark.Comma (reading.read_qualifier c.args.levels
    (part c.args.levels c.args.brackets)) (toks c.args.tokens))

pub qualifiers::qualifiers-loop-after-init : goal.qualifiers::qualifiers-loop-after-init
qualifiers::qualifiers-loop-after-init t c = (
  rw c.in_ok-qualifiers.ensures.items (going_start more_qualifiers no_qualifiers mark.Comma (reading.read_qualifier c.args.levels (part c.args.levels
      c.args.brackets)) (toks c.args.tokens) (toks c.in_ok-first.behind) c.in_ok-first.first.value c.in_ok-first.ensures.gives
      (fewer c.args.tokens c.in_ok-first.behind c.in_ok-first.ensures.moves)),
  c.in_ok-first.ensures.moves,
)

pub qualifiers::qualifiers-returns-in_err-next-clause-gives : goal.qualifiers::qualifiers-returns-in_err-next-clause-gives
qualifiers::qualifiers-returns-in_err-next-clause-gives t c =
    let err = err_from_is_err_and c.from_residual-in_err-next.result c.from_residual-in_err-next.ensures.1 in
    passed_on (λ (x : Box QualifierTree Global). x.value) (λ v. qualifiers_of v.items) c.from_residual-in_err-next.result c.in_err-next.field-0.0 ((reading.read_qualifier c.args.levels
    (part c.args.levels c.args.brackets)) (toks c.in-Some.after)) (reading.read_qualifiers c.args.levels (part c.args.levels c.args.brackets) (toks
    c.args.tokens))
    c.in_err-next.ensures.gives (err.1 ∙ ap Err err.2)
    (λ e. going_fails more_qualifiers no_qualifiers mark.Comma (reading.read_qualifier c.args.levels (part c.args.levels c.args.brackets))
    (reading.read_qualifiers c.args.levels (part c.args.levels c.args.brackets) (toks c.args.tokens)) c.loop-after.qualifiers.items (toks
    c.loop-after.rest) (toks c.in-Some.after) c.loop-after.invariant.0
    c.in-Some.ensures.finds e (fewer c.loop-after.rest c.in-Some.after c.in-Some.ensures.moves))

pub qualifiers::qualifiers-loop-after-preserved : goal.qualifiers::qualifiers-loop-after-preserved
qualifiers::qualifiers-loop-after-preserved t c = (
  rw c.in_ok-add.ensures.items (going_next more_qualifiers no_qualifiers mark.Comma (reading.read_qualifier c.args.levels (part c.args.levels
      c.args.brackets)) (reading.read_qualifiers c.args.levels (part c.args.levels c.args.brackets) (toks c.args.tokens)) c.loop-after.qualifiers.items
      (toks c.loop-after.rest) (toks c.in-Some.after)
      (toks c.in_ok-next.behind) c.in_ok-next.next.value c.loop-after.invariant.0 c.in-Some.ensures.finds c.in_ok-next.ensures.gives (fewer
      c.loop-after.rest c.in-Some.after c.in-Some.ensures.moves)
      (fewer c.in-Some.after c.in_ok-next.behind c.in_ok-next.ensures.moves)),
  moves_on (moves_on c.loop-after.invariant.1 c.in-Some.ensures.moves) c.in_ok-next.ensures.moves,
)

pub qualifiers::qualifiers-returns-clause-gives : goal.qualifiers::qualifiers-returns-clause-gives
qualifiers::qualifiers-returns-clause-gives t c =
    going_ends more_qualifiers no_qualifiers mark.Comma (reading.read_qualifier c.args.levels (part c.args.levels c.args.brackets))
    (reading.read_qualifiers c.args.levels (part c.args.levels c.args.brackets) (toks c.args.tokens)) c.loop-after.qualifiers.items (toks
    c.loop-after.rest) c.loop-after.invariant.0 c.in_default.ensures.finds
    ∙ ap (λ xs. Some (xs, toks c.loop-after.rest)) (qualifiers_gathered c.loop-after.qualifiers.items)

pub bodies::guard-returns-in_err-first-clause-gives : goal.bodies::guard-returns-in_err-first-clause-gives
bodies::guard-returns-in_err-first-clause-gives t c =
    let err = err_from_is_err_and c.from_residual.result c.from_residual.ensures.1 in
    passed_on (λ x. x) (λ x. x) c.from_residual.result c.in_err-first.field-0.0 ((reading.read_all (part c.args.levels c.args.brackets)) (toks
    c.args.tokens)) (reading.read_guard (part c.args.levels c.args.brackets) (toks c.args.tokens))
    c.in_err-first.ensures.gives (err.1 ∙ ap Err err.2) (start_fails alternative no_guard mark.Semicolon (reading.read_all (part c.args.levels
    c.args.brackets)) (toks c.args.tokens))

pub bodies::guard-loop-after-init : goal.bodies::guard-loop-after-init
bodies::guard-loop-after-init t c = (
  rw c.in_ok-alternatives.ensures.items (going_start alternative no_guard mark.Semicolon (reading.read_all (part c.args.levels c.args.brackets))
      (toks c.args.tokens) (toks c.in_ok-first.behind) c.in_ok-first.first c.in_ok-first.ensures.gives
      (fewer c.args.tokens c.in_ok-first.behind c.in_ok-first.ensures.moves)),
  c.in_ok-first.ensures.moves,
)

pub bodies::guard-returns-in_err-next-clause-gives : goal.bodies::guard-returns-in_err-next-clause-gives
bodies::guard-returns-in_err-next-clause-gives t c =
    let err = err_from_is_err_and c.from_residual-in_err-next.result c.from_residual-in_err-next.ensures.1 in
    passed_on (λ x. x) (λ x. x) c.from_residual-in_err-next.result c.in_err-next.field-0.0 ((reading.read_all (part c.args.levels c.args.brackets))
    (toks c.in-Some.after)) (reading.read_guard (part c.args.levels c.args.brackets) (toks c.args.tokens))
    c.in_err-next.ensures.gives (err.1 ∙ ap Err err.2)
    (λ e. going_fails alternative no_guard mark.Semicolon (reading.read_all (part c.args.levels c.args.brackets)) (reading.read_guard (part
    c.args.levels c.args.brackets) (toks c.args.tokens)) c.loop-after.alternatives.items (toks c.loop-after.rest) (toks c.in-Some.after)
    c.loop-after.invariant.0
    c.in-Some.ensures.finds e (fewer c.loop-after.rest c.in-Some.after c.in-Some.ensures.moves))

pub bodies::guard-loop-after-preserved : goal.bodies::guard-loop-after-preserved
bodies::guard-loop-after-preserved t c = (
  rw c.in_ok-push.ensures.items (going_next alternative no_guard mark.Semicolon (reading.read_all (part c.args.levels c.args.brackets))
      (reading.read_guard (part c.args.levels c.args.brackets) (toks c.args.tokens)) c.loop-after.alternatives.items (toks c.loop-after.rest) (toks
      c.in-Some.after)
      (toks c.in_ok-next.behind) c.in_ok-next.next c.loop-after.invariant.0 c.in-Some.ensures.finds c.in_ok-next.ensures.gives (fewer
      c.loop-after.rest c.in-Some.after c.in-Some.ensures.moves)
      (fewer c.in-Some.after c.in_ok-next.behind c.in_ok-next.ensures.moves)),
  moves_on (moves_on c.loop-after.invariant.1 c.in-Some.ensures.moves) c.in_ok-next.ensures.moves,
)

pub bodies::guard-returns-clause-gives : goal.bodies::guard-returns-clause-gives
bodies::guard-returns-clause-gives t c =
    going_ends alternative no_guard mark.Semicolon (reading.read_all (part c.args.levels c.args.brackets)) (reading.read_guard (part c.args.levels
    c.args.brackets) (toks c.args.tokens)) c.loop-after.alternatives.items (toks c.loop-after.rest) c.loop-after.invariant.0 c.in_default.ensures.finds
    ∙ ap (λ xs. Some (xs, toks c.loop-after.rest)) (guards_gathered c.loop-after.alternatives.items)

pub bodies::tests-returns-in_err-first-clause-gives : goal.bodies::tests-returns-in_err-first-clause-gives
bodies::tests-returns-in_err-first-clause-gives t c =
    let err = err_from_is_err_and c.from_residual.result c.from_residual.ensures.1 in
    passed_on (λ (e : Box Exp Global). e.value) (λ x. x) c.from_residual.result c.in_err-first.field-0.0 ((part c.args.levels c.args.brackets) (toks c.args.tokens))
    (reading.read_all (part c.args.levels c.args.brackets) (toks c.args.tokens))
    c.in_err-first.ensures.gives (err.1 ∙ ap Err err.2) (start_fails more none mark.Comma (part c.args.levels c.args.brackets) (toks c.args.tokens))

pub bodies::tests-loop-after-init : goal.bodies::tests-loop-after-init
bodies::tests-loop-after-init t c = (
  rw c.in_ok-tests.ensures.items (going_start more none mark.Comma (part c.args.levels c.args.brackets) (toks c.args.tokens) (toks
      c.in_ok-first.behind) c.in_ok-first.first.value c.in_ok-first.ensures.gives
      (fewer c.args.tokens c.in_ok-first.behind c.in_ok-first.ensures.moves)),
  c.in_ok-first.ensures.moves,
)

pub bodies::tests-returns-in_err-next-clause-gives : goal.bodies::tests-returns-in_err-next-clause-gives
bodies::tests-returns-in_err-next-clause-gives t c =
    let err = err_from_is_err_and c.from_residual-in_err-next.result c.from_residual-in_err-next.ensures.1 in
    passed_on (λ (e : Box Exp Global). e.value) (λ x. x) c.from_residual-in_err-next.result c.in_err-next.field-0.0 ((part c.args.levels c.args.brackets) (toks
    c.in-Some.after)) (reading.read_all (part c.args.levels c.args.brackets) (toks c.args.tokens))
    c.in_err-next.ensures.gives (err.1 ∙ ap Err err.2)
    (λ e. going_fails more none mark.Comma (part c.args.levels c.args.brackets) (reading.read_all (part c.args.levels c.args.brackets) (toks
    c.args.tokens)) c.loop-after.tests.items (toks c.loop-after.rest) (toks c.in-Some.after) c.loop-after.invariant.0
    c.in-Some.ensures.finds e (fewer c.loop-after.rest c.in-Some.after c.in-Some.ensures.moves))

pub bodies::tests-loop-after-preserved : goal.bodies::tests-loop-after-preserved
bodies::tests-loop-after-preserved t c = (
  rw c.in_ok-add_test.ensures.items (going_next more none mark.Comma (part c.args.levels c.args.brackets) (reading.read_all (part c.args.levels
      c.args.brackets) (toks c.args.tokens)) c.loop-after.tests.items (toks c.loop-after.rest) (toks c.in-Some.after)
      (toks c.in_ok-next.behind) c.in_ok-next.next.value c.loop-after.invariant.0 c.in-Some.ensures.finds c.in_ok-next.ensures.gives (fewer
      c.loop-after.rest c.in-Some.after c.in-Some.ensures.moves)
      (fewer c.in-Some.after c.in_ok-next.behind c.in_ok-next.ensures.moves)),
  moves_on (moves_on c.loop-after.invariant.1 c.in-Some.ensures.moves) c.in_ok-next.ensures.moves,
)

pub bodies::tests-returns-clause-gives : goal.bodies::tests-returns-clause-gives
bodies::tests-returns-clause-gives t c =
    going_ends more none mark.Comma (part c.args.levels c.args.brackets) (reading.read_all (part c.args.levels c.args.brackets) (toks c.args.tokens))
    c.loop-after.tests.items (toks c.loop-after.rest) c.loop-after.invariant.0 c.in_default.ensures.finds
    ∙ ap (λ xs. Some (xs, toks c.loop-after.rest)) (exps_gathered c.loop-after.tests.items)
