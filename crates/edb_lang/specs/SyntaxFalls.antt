-- Each expression has fewer nodes than the one that it is a part of.

use Rattle.std.specs.Prelude.{ℕ, ◌+◌, ◌≤◌, max, List, [], ◌∷◌}
use Rattle.std.proofs.Common.{arith}
use denote.Param.Weighed.{most}
use Rattle.edb_lang.specs.declared.syntax.Expr.TheDeep.{deep-ExprNode}
use Rattle.edb_lang.specs.declared.syntax.ExprNode.{ExprNode}
use Rattle.edb_lang.specs.declared.syntax.ExprNode.TheVariants.{Int, Atom, Var, Match, Binary, Call, Remote}
use Rattle.edb_lang.specs.Syntax.{Exp, exps_of, nodes, all_nodes}
use Rattle.edb_lang.specs.SyntaxViews.{exp_of}

pub most_le-all_nodes : (es : List Exp) → most (λ e. nodes e + 1) es ≤ all_nodes (exps_of es) + 1
most_le-all_nodes [] = omega arith
most_le-all_nodes (e ∷ es) = omega (arith, most_le-all_nodes es)

pub exp_falls : (l : ℕ) (n : ExprNode) → max (deep-ExprNode n) 0 ≤ nodes (exp_of l n)
exp_falls l (Int i) = omega arith
exp_falls l (Atom a) = omega arith
exp_falls l (Var x) = omega arith
exp_falls l (Match p e) = omega arith
exp_falls l (Binary o a b) = omega arith
exp_falls l (Call f es) = omega (arith, most_le-all_nodes es.items)
exp_falls l (Remote m f es) = omega (arith, most_le-all_nodes es.items)
