-- The parts of a node in a slice are smaller than the node.

use Rattle.std.proofs.Common.{ap, arith}
use denote.Param.Weighed.{most}
use Rattle.edb_syntax.specs.declared.clause.CatchClause.TheDeep.{deep-ExprNode, size-Expr, size-Clause, size-CatchClause}
use Rattle.edb_syntax.proofs.Lists.{most-size_le-most_sizes, most-size_le-most_clauses, most-size_le-most_catches}
use Rattle.edb_syntax.proofs.+copy_expression.Goals as goal

pub expression::ExprNode::copy_operands-copy_exprs-requires : goal.expression::ExprNode::copy_operands-copy_exprs-requires
expression::ExprNode::copy_operands-copy_exprs-requires t c =
    (omega (arith, most-size_le-most_sizes c.in-Apply.operands.items, ap deep-ExprNode c.in-Apply.is, ap (most size-Expr) c.deref.ensures.value), tt)

pub expression::ExprNode::copy_choice-copy_clauses-requires : goal.expression::ExprNode::copy_choice-copy_clauses-requires
expression::ExprNode::copy_choice-copy_clauses-requires t c =
    (omega (arith, most-size_le-most_clauses c.in-Case.clauses.items, ap deep-ExprNode c.in-Case.is, ap (most size-Clause) c.deref-in-Case.ensures.value), tt)

pub expression::ExprNode::copy_choice-copy_clauses-requires-in-If : goal.expression::ExprNode::copy_choice-copy_clauses-requires-in-If
expression::ExprNode::copy_choice-copy_clauses-requires-in-If t c =
    (omega (arith, most-size_le-most_clauses c.in-If.clauses.items, ap deep-ExprNode c.in-If.is, ap (most size-Clause) c.deref-in-If.ensures.value), tt)

pub expression::ExprNode::copy_choice-copy_clauses-requires-in-Receive : goal.expression::ExprNode::copy_choice-copy_clauses-requires-in-Receive
expression::ExprNode::copy_choice-copy_clauses-requires-in-Receive t c =
    (omega (arith, most-size_le-most_clauses c.in-Receive.clauses.items, ap deep-ExprNode c.in-Receive.is, ap (most size-Clause) c.deref-in-Receive.ensures.value), tt)

pub expression::ExprNode::copy_choice-copy_clauses-requires-in-ReceiveAfter : goal.expression::ExprNode::copy_choice-copy_clauses-requires-in-ReceiveAfter
expression::ExprNode::copy_choice-copy_clauses-requires-in-ReceiveAfter t c =
    (omega (arith, most-size_le-most_clauses c.in-ReceiveAfter.clauses.items, ap deep-ExprNode c.in-ReceiveAfter.is, ap (most size-Clause) c.deref-in-ReceiveAfter.ensures.value), tt)

pub expression::ExprNode::copy_choice-copy_clauses-requires-in-Try : goal.expression::ExprNode::copy_choice-copy_clauses-requires-in-Try
expression::ExprNode::copy_choice-copy_clauses-requires-in-Try t c =
    (omega (arith, most-size_le-most_clauses c.in-Try.of.items, ap deep-ExprNode c.in-Try.is, ap (most size-Clause) c.deref-in-Try.ensures.value), tt)

pub expression::ExprNode::copy_choice-copy_catches-requires : goal.expression::ExprNode::copy_choice-copy_catches-requires
expression::ExprNode::copy_choice-copy_catches-requires t c =
    (omega (arith, most-size_le-most_catches c.in-Try.catches.items, ap deep-ExprNode c.in-Try.is, ap (most size-CatchClause) c.deref-in-Try-2.ensures.value), tt)

pub expression::ExprNode::copy_fun-copy_clauses-requires : goal.expression::ExprNode::copy_fun-copy_clauses-requires
expression::ExprNode::copy_fun-copy_clauses-requires t c =
    (omega (arith, most-size_le-most_clauses c.in-Fun.clauses.items, ap deep-ExprNode c.in-Fun.is, ap (most size-Clause) c.deref.ensures.value), tt)
