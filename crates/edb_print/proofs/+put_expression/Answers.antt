use Rattle.std.proofs.Common.{rules, ◌≡◌, ◌<◌, ◌++◌, eqb, eqb-true, true, false, refl, length, drop, sym, ◌∙◌, ap, append-nil, arith}
use Rattle.edb_scan.specs.declared.lexeme.Mark.TheVariants as mark
use Rattle.edb_syntax.specs.declared.operation.Operation.TheVariants as operation
use Rattle.edb_syntax.specs.Syntax.{apply, and_also, or_else, exps_of, guards_of, catches_of}
use Rattle.edb_print.specs.Pieces.{tight, blank, line, sign, piece_text, bytes_of}
use Rattle.edb_print.specs.Layout.{is_operator, is_open, grouped, lay, lay_guard, lay_when, lay_catch}
use Rattle.edb_print.specs.Parts.{tail_left, lay_behind, lay_arguments, lay_handlers}
use Rattle.edb_print.specs.Views.{gap_of}
use Rattle.edb_print.proofs.Laid.{ends2, ends2_each, ends3_each, ends4_each, catch_text, of_block, when_text, one_up, two_up, unary_text, fun_call_text, remote_text, few_infix, few_remote, none_laid, few_each, tail_text, items_end, items_step, tail_step, and_text, or_text}
use Rattle.edb_print.proofs.+put_expression.Goals as goal

pub clauses::put_catch-returns : goal.clauses::put_catch-returns
clauses::put_catch-returns t c =
    let some : eqb (length c.args.clauses.now) 0 ≡ false = search rules in
    ends2 c.put_handlers.result c.args.out.now.items c.put_sign.new.out.items c.put_handlers.new.out.items
    (piece_text (sign (line c.args.depth) mark.Catch))
    (bytes_of (lay_handlers c.in_ok-inner.inner (catches_of c.args.clauses.now)))
    (bytes_of (lay_catch c.args.depth (catches_of c.args.clauses.now)))
    c.in_ok-put_sign.ensures (catch_text c.args.depth c.in_ok-inner.inner c.args.clauses.now some c.in_ok-inner.ensures) c.put_handlers.ensures

pub clauses::put_of-returns : goal.clauses::put_of-returns
clauses::put_of-returns t c =
    let some : eqb (length c.args.clauses.now) 0 ≡ false = search rules in
    rw (of_block c.args.depth c.args.clauses.now some) c.put_opened.ensures

pub clauses::put_when-returns : goal.clauses::put_when-returns
clauses::put_when-returns t c =
    let some : eqb (length c.guard.inside.alternatives.items) 0 ≡ false = search rules in
    let view : c.args.guard.now ≡ guards_of c.guard.inside.alternatives.items = search rules in
    ends2 c.put_guard.result c.args.out.now.items c.put_sign.new.out.items c.put_guard.new.out.items
    (piece_text (sign blank mark.When)) (bytes_of (lay_guard blank c.args.depth c.args.guard.now)) (bytes_of (lay_when c.args.depth c.args.guard.now))
    c.in_ok-put_sign.ensures (when_text c.args.depth c.args.guard.now c.guard.inside.alternatives.items view some) c.put_guard.ensures

pub expressions::put_unary-returns-in_ok-put_sign-in-len1-up : goal.expressions::put_unary-returns-in_ok-put_sign-in-len1-up
expressions::put_unary-returns-in_ok-put_sign-in-len1-up t c =
    let x = c.operand-item.result in
    let parts = one_up c.args.operands.now x c.in-len1-up.len_at_least c.operand-item.is in
    ends2_each c.put_operand.result c.args.out.now.items c.put_sign.new.out.items c.put_operand.new.out.items
    (piece_text (sign (gap_of c.args.gap) c.prefix.result))
    (bytes_of (grouped (is_operator x) (λ h. lay h c.args.depth x) (gap_of c.prefix_gap.result)))
    (λ l. bytes_of (lay (gap_of c.args.gap) c.args.depth (apply l (operation.Unary c.args.op) (exps_of c.args.operands.now))))
    c.in_ok-put_sign-in-len1-up.ensures
    (λ l. unary_text (gap_of c.args.gap) (gap_of c.prefix_gap.result) c.args.depth l c.args.op c.prefix.result c.args.operands.now x parts
    c.prefix.ensures c.prefix_gap.ensures)
    c.put_operand.ensures

pub expressions::put_fun_call-returns-in_ok-put_callee-in-len1-up : goal.expressions::put_fun_call-returns-in_ok-put_callee-in-len1-up
expressions::put_fun_call-returns-in_ok-put_callee-in-len1-up t c =
    let x = c.callee-item.result in
    let parts = one_up c.args.operands.now x c.in-len1-up.len_at_least c.callee-item.is in
    ends2_each c.put_arguments.result c.args.out.now.items c.put_callee.new.out.items c.put_arguments.new.out.items
    (bytes_of (grouped (is_open x) (λ h. lay h c.args.depth x) (gap_of c.args.gap)))
    (bytes_of (lay_arguments c.args.depth (exps_of (drop 1 c.args.operands.now))))
    (λ l. bytes_of (lay (gap_of c.args.gap) c.args.depth (apply l operation.FunCall (exps_of c.args.operands.now))))
    c.in_ok-put_callee-in-len1-up.ensures
    (λ l. fun_call_text (gap_of c.args.gap) c.args.depth l c.args.operands.now x parts)
    c.put_arguments.ensures

pub expressions::put_remote_call-returns-in_ok-put_callee-in-len2-up-2 : goal.expressions::put_remote_call-returns-in_ok-put_callee-in-len2-up-2
expressions::put_remote_call-returns-in_ok-put_callee-in-len2-up-2 t c =
    let x = c.home-item.result in
    let y = c.name-item.result in
    let parts = two_up c.args.operands.now x y c.in-len2-up.len_at_least c.home-item.is c.name-item.is in
    ends4_each c.put_arguments.result c.args.out.now.items c.put_callee.new.out.items c.put_sign.new.out.items c.put_callee-in-len2-up.new.out.items
    c.put_arguments.new.out.items
    (bytes_of (grouped (is_open x) (λ h. lay h c.args.depth x) (gap_of c.args.gap)))
    (piece_text (sign tight mark.Colon))
    (bytes_of (grouped (is_open y) (λ h. lay h c.args.depth y) tight))
    (bytes_of (lay_arguments c.args.depth (exps_of (drop 2 c.args.operands.now))))
    (λ l. bytes_of (lay (gap_of c.args.gap) c.args.depth (apply l operation.RemoteCall (exps_of c.args.operands.now))))
    c.in_ok-put_callee-in-len2-up.ensures c.in_ok-put_sign-in-len2-up.ensures c.in_ok-put_callee-in-len2-up-2.ensures
    (λ l. remote_text (gap_of c.args.gap) c.args.depth l c.args.operands.now x y parts)
    c.put_arguments.ensures

pub expressions::put_infix-returns-in_default : goal.expressions::put_infix-returns-in_default
expressions::put_infix-returns-in_default t c =
    let few : length c.args.operands.now < 2 = omega arith in
    rw (few_infix (gap_of c.args.gap) c.args.depth c.args.mark c.args.operands.now few) c.put_braces.ensures

pub expressions::put_remote_call-returns-in_default : goal.expressions::put_remote_call-returns-in_default
expressions::put_remote_call-returns-in_default t c =
    let few : length c.args.operands.now < 2 = omega arith in
    few_each c.put_braces.result c.args.out.now.items c.put_braces.new.out.items (gap_of c.args.gap) c.args.depth operation.RemoteCall
    (exps_of c.args.operands.now) (λ l. few_remote (gap_of c.args.gap) c.args.depth l c.args.operands.now few) c.put_braces.ensures

pub expressions::put_fun_call-returns-in_default : goal.expressions::put_fun_call-returns-in_default
expressions::put_fun_call-returns-in_default t c =
    let few : length c.args.operands.now < 1 = omega arith in
    few_each c.put_braces.result c.args.out.now.items c.put_braces.new.out.items (gap_of c.args.gap) c.args.depth operation.FunCall
    (exps_of c.args.operands.now) (λ l. none_laid (gap_of c.args.gap) c.args.depth l operation.FunCall c.args.operands.now few refl)
    c.put_braces.ensures

pub expressions::put_unary-returns-in_default : goal.expressions::put_unary-returns-in_default
expressions::put_unary-returns-in_default t c =
    let few : length c.args.operands.now < 1 = omega arith in
    few_each c.put_braces.result c.args.out.now.items c.put_braces.new.out.items (gap_of c.args.gap) c.args.depth (operation.Unary c.args.op)
    (exps_of c.args.operands.now) (λ l. none_laid (gap_of c.args.gap) c.args.depth l (operation.Unary c.args.op) c.args.operands.now few refl)
    c.put_braces.ensures

pub expressions::put_list_with_tail-returns-then-is_empty : goal.expressions::put_list_with_tail-returns-then-is_empty
expressions::put_list_with_tail-returns-then-is_empty t c =
    let empty : eqb (length c.args.operands.now) 0 ≡ true = search rules in
    let none = eqb-true (length c.args.operands.now) 0 empty in
    few_each c.put_braces.result c.args.out.now.items c.put_braces.new.out.items (gap_of c.args.gap) c.args.depth operation.ListWithTail
    (exps_of c.args.operands.now)
    (λ l. none_laid (gap_of c.args.gap) c.args.depth l operation.ListWithTail c.args.operands.now (omega (arith, none)) refl)
    c.put_braces.ensures

pub expressions::put_list_with_tail-returns : goal.expressions::put_list_with_tail-returns
expressions::put_list_with_tail-returns t c =
    let some : eqb (length c.args.operands.now) 0 ≡ false = search rules in
    ends3_each c.put_sign-2.result c.args.out.now.items c.put_sign.new.out.items c.put_with_tail.new.out.items c.put_sign-2.new.out.items
    (piece_text (sign (gap_of c.args.gap) mark.BracketOpen)) (bytes_of (tail_left true c.args.depth (exps_of c.args.operands.now)))
    (piece_text (sign tight mark.BracketClose))
    (λ l. bytes_of (lay (gap_of c.args.gap) c.args.depth (apply l operation.ListWithTail (exps_of c.args.operands.now))))
    c.in_ok-put_sign.ensures c.in_ok-put_with_tail.ensures
    (λ l. tail_text (gap_of c.args.gap) c.args.depth l c.args.operands.now some) c.put_sign-2.ensures

pub expressions::put_items-returns : goal.expressions::put_items-returns
expressions::put_items-returns t c =
    sym (append-nil c.loop-expr.out.items)
    ∙ ap (λ v. c.loop-expr.out.items ++ v) (sym (items_end c.loop-expr.first (gap_of c.args.gap) (gap_of c.args.next) c.args.depth c.loop-expr.skip
    c.loop-expr.expr-index c.args.exprs.now c.loop-expr-test.false))
    ∙ c.loop-expr.invariant

pub expressions::put_items-loop-expr-preserved : goal.expressions::put_items-loop-expr-preserved
expressions::put_items-loop-expr-preserved t c =
    items_step c.loop-expr.first (gap_of c.args.gap) (gap_of c.args.next) c.args.depth c.loop-expr.skip c.loop-expr.expr-index c.args.exprs.now
    c.expr-item.result c.loop-expr.out.items c.put_item.new.out.items _ (omega arith) c.loop-expr-test.true c.expr-item.is
    c.in_ok-put_item.ensures c.loop-expr.invariant

pub expressions::put_with_tail-loop-operand-preserved : goal.expressions::put_with_tail-loop-operand-preserved
expressions::put_with_tail-loop-operand-preserved t c = (
  tail_step c.loop-operand.first c.args.depth c.loop-operand.left c.loop-operand.operand-index c.args.operands.now c.operand-item.result
      c.loop-operand.out.items c.put_tail_item.new.out.items _ c.loop-operand-test.true c.operand-item.is c.loop-operand.invariant.1
      c.in_ok-put_tail_item.ensures c.loop-operand.invariant.0,
  omega arith,
)

pub expressions::put_expression-returns-in_ok-put_operand-in-AndAlso : goal.expressions::put_expression-returns-in_ok-put_operand-in-AndAlso
expressions::put_expression-returns-in_ok-put_operand-in-AndAlso t c =
    let x = c.deref-in-AndAlso.result.now in
    let y = c.deref-in-AndAlso-2.result.now in
    let is : c.args.expr.now ≡ and_also c.expr.inside.line x y = search rules in
    ends2 c.put_behind.result c.args.out.now.items c.put_operand.new.out.items c.put_behind.new.out.items
    (bytes_of (grouped (is_operator x) (λ h. lay h c.args.depth x) (gap_of c.args.gap))) (bytes_of (lay_behind c.args.depth mark.AndAlso y))
    (bytes_of (lay (gap_of c.args.gap) c.args.depth c.args.expr.now))
    c.in_ok-put_operand-in-AndAlso.ensures
    (and_text (gap_of c.args.gap) c.args.depth c.expr.inside.line c.args.expr.now x y is)
    c.put_behind.ensures

pub expressions::put_expression-returns-in_ok-put_operand-in-OrElse : goal.expressions::put_expression-returns-in_ok-put_operand-in-OrElse
expressions::put_expression-returns-in_ok-put_operand-in-OrElse t c =
    let x = c.deref-in-OrElse.result.now in
    let y = c.deref-in-OrElse-2.result.now in
    let is : c.args.expr.now ≡ or_else c.expr.inside.line x y = search rules in
    ends2 c.put_behind-in-OrElse.result c.args.out.now.items c.put_operand-in-OrElse.new.out.items c.put_behind-in-OrElse.new.out.items
    (bytes_of (grouped (is_operator x) (λ h. lay h c.args.depth x) (gap_of c.args.gap))) (bytes_of (lay_behind c.args.depth mark.OrElse y))
    (bytes_of (lay (gap_of c.args.gap) c.args.depth c.args.expr.now))
    c.in_ok-put_operand-in-OrElse.ensures
    (or_text (gap_of c.args.gap) c.args.depth c.expr.inside.line c.args.expr.now x y is)
    c.put_behind-in-OrElse.ensures
