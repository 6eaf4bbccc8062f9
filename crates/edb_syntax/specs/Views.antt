-- The trees that contracts see, by the nodes of src/.

use Rattle.std.specs.Prelude.{ℕ, Option, None, Some}
use Rattle.edb_syntax.specs.declared.expression.ExprNode.{ExprNode}
use Rattle.edb_syntax.specs.declared.expression.ExprNode.TheVariants as node
use Rattle.edb_syntax.specs.declared.qualifier.QualifierNode.{QualifierNode}
use Rattle.edb_syntax.specs.declared.qualifier.QualifierNode.TheVariants as qualifier
use Rattle.edb_syntax.specs.Syntax.{Exp, Seq, After, QualifierTree, exps_of, clauses_of, catches_of, qualifiers_of, int, atom, string, float, variable, apply, and_also, or_else, match, catch, begin, case, if_clauses, receive, receive_after, try, fun_clauses, fun_local, fun_remote, comprehension, no_after, after, generator, filter}

abbrev pub after_of : Option Seq → After
after_of None = no_after
after_of (Some s) = after s

abbrev pub exp_of : ℕ → ExprNode → Exp
exp_of l (node.Int i) = int l i
exp_of l (node.Atom a) = atom l a
exp_of l (node.Str s) = string l s.items
exp_of l node.Float = float l
exp_of l (node.Var x) = variable l x
exp_of l (node.Apply o es) = apply l o (exps_of es.items)
exp_of l (node.AndAlso a b) = and_also l a.value b.value
exp_of l (node.OrElse a b) = or_else l a.value b.value
exp_of l (node.Match p e) = match l p e.value
exp_of l (node.Catch e) = catch l e.value
exp_of l (node.Begin s) = begin l s
exp_of l (node.Case e cs) = case l e.value (clauses_of cs.items)
exp_of l (node.If cs) = if_clauses l (clauses_of cs.items)
exp_of l (node.Receive cs) = receive l (clauses_of cs.items)
exp_of l (node.ReceiveAfter cs e s) = receive_after l (clauses_of cs.items) e.value s
exp_of l (node.Try s cs hs a) = try l s (clauses_of cs.items) (catches_of hs.items) (after_of a)
exp_of l (node.Fun i cs) = fun_clauses l i (clauses_of cs.items)
exp_of l (node.FunLocal i f n) = fun_local l i f n
exp_of l (node.FunRemote m f n) = fun_remote l m f n
exp_of l (node.Comprehension e qs) = comprehension l e.value (qualifiers_of qs.items)

abbrev pub qualifier_of : QualifierNode → QualifierTree
qualifier_of (qualifier.Generator p e) = generator p e
qualifier_of (qualifier.Filter e) = filter e
