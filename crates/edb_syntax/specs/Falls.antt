-- Each tree is smaller than the one that it is a part of.

use Rattle.std.specs.Prelude.{ℕ, ◌+◌, ◌≤◌, max, List, [], ◌∷◌, None, Some}
use Rattle.std.proofs.Common.{arith}
use denote.Param.Weighed.{most}
use Rattle.edb_syntax.specs.declared.clause.CatchClause.TheDeep.{deep-ExprNode, deep-QualifierNode}
use Rattle.edb_syntax.specs.declared.expression.ExprNode.{ExprNode}
use Rattle.edb_syntax.specs.declared.expression.ExprNode.TheVariants as node
use Rattle.edb_syntax.specs.declared.qualifier.QualifierNode.{QualifierNode}
use Rattle.edb_syntax.specs.declared.qualifier.QualifierNode.TheVariants as qualifier
use Rattle.edb_syntax.specs.Syntax.{Exp, Exps, Seq, Guards, ClauseTree, CatchTree, QualifierTree, sequence, exps_of, guards_of, clauses_of, catches_of, qualifiers_of}
use Rattle.edb_syntax.specs.Sizes.{size, sizes, sequence_size, alternatives_size, guard_size, alternative_size, test_size, clause_size, clauses_size, catch_size, catches_size, qualifier_size, qualifiers_size}
use Rattle.edb_syntax.specs.Views.{exp_of, qualifier_of}

pub most_le-sizes : (es : List Exp) → most (λ e. size e + 1) es ≤ sizes (exps_of es) + 1
most_le-sizes [] = omega arith
most_le-sizes (e ∷ es) = omega (arith, most_le-sizes es)

pub most_le-test_sizes : (es : List Exp) → most (λ e. test_size e + 1) es ≤ sizes (exps_of es) + 2
most_le-test_sizes [] = omega arith
most_le-test_sizes (e ∷ es) = omega (arith, most_le-test_sizes es)

pub most_le-alternatives_size : (gs : List Exps) → most (λ es. alternative_size es + 1) gs ≤ alternatives_size (guards_of gs) + 3
most_le-alternatives_size [] = omega arith
most_le-alternatives_size (es ∷ gs) = omega (arith, most_le-alternatives_size gs)

pub most_le-clauses_size : (cs : List ClauseTree) → most (λ c. clause_size c + 1) cs ≤ clauses_size (clauses_of cs) + 1
most_le-clauses_size [] = omega arith
most_le-clauses_size (c ∷ cs) = omega (arith, most_le-clauses_size cs)

pub most_le-catches_size : (cs : List CatchTree) → most (λ c. catch_size c + 1) cs ≤ catches_size (catches_of cs) + 1
most_le-catches_size [] = omega arith
most_le-catches_size (c ∷ cs) = omega (arith, most_le-catches_size cs)

pub most_le-qualifiers_size : (qs : List QualifierTree) → most (λ q. qualifier_size q + 1) qs ≤ qualifiers_size (qualifiers_of qs) + 1
most_le-qualifiers_size [] = omega arith
most_le-qualifiers_size (q ∷ qs) = omega (arith, most_le-qualifiers_size qs)

pub exp_falls : (l : ℕ) (n : ExprNode) → max (deep-ExprNode n) 0 ≤ size (exp_of l n)
exp_falls l (node.Int i) = omega arith
exp_falls l (node.Atom a) = omega arith
exp_falls l (node.Str s) = omega arith
exp_falls l node.Float = omega arith
exp_falls l (node.Var x) = omega arith
exp_falls l (node.Apply o es) = omega (arith, most_le-sizes es.items)
exp_falls l (node.AndAlso a b) = omega arith
exp_falls l (node.OrElse a b) = omega arith
exp_falls l (node.Match p e) = omega arith
exp_falls l (node.Catch e) = omega arith
exp_falls l (node.Begin s) = omega arith
exp_falls l (node.Case e cs) = omega (arith, most_le-clauses_size cs.items)
exp_falls l (node.If cs) = omega (arith, most_le-clauses_size cs.items)
exp_falls l (node.Receive cs) = omega (arith, most_le-clauses_size cs.items)
exp_falls l (node.ReceiveAfter cs e s) = omega (arith, most_le-clauses_size cs.items)
exp_falls l (node.Try s cs hs None) = omega (arith, most_le-clauses_size cs.items, most_le-catches_size hs.items)
exp_falls l (node.Try s cs hs (Some a)) = omega (arith, most_le-clauses_size cs.items, most_le-catches_size hs.items)
exp_falls l (node.Fun i cs) = omega (arith, most_le-clauses_size cs.items)
exp_falls l (node.FunLocal i f n) = omega arith
exp_falls l (node.FunRemote m f n) = omega arith
exp_falls l (node.Comprehension e qs) = omega (arith, most_le-qualifiers_size qs.items)

pub qualifier_falls : (n : QualifierNode) → max (deep-QualifierNode n) 0 ≤ qualifier_size (qualifier_of n)
qualifier_falls (qualifier.Generator p e) = omega arith
qualifier_falls (qualifier.Filter e) = omega arith

-- the parts of a sequence, of a guard and its alternatives, of a clause
pub sequence_falls : (e : Exp) (es : List Exp) → max (size e + 1) (max (most (λ d. size d + 1) es) 0) ≤ sequence_size (sequence e (exps_of es))
sequence_falls e es = omega (arith, most_le-sizes es)

pub test_falls : (e : Exp) → max (size e + 1) 0 ≤ test_size e
test_falls e = omega arith

pub alternative_falls : (es : List Exp) → max (most (λ e. test_size e + 1) es) 0 ≤ alternative_size (exps_of es)
alternative_falls es = omega (arith, most_le-test_sizes es)

pub guard_falls : (gs : List Exps) → max (most (λ es. alternative_size es + 1) gs) 0 ≤ guard_size (guards_of gs)
guard_falls gs = omega (arith, most_le-alternatives_size gs)

pub clause_falls : (g : Guards) (s : Seq) → max (guard_size g + 1) (max (sequence_size s + 1) 0) ≤ (alternatives_size g + sequence_size s) + 4
clause_falls g s = omega arith
