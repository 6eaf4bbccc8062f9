-- The tree that contracts see, by the nodes of src/.

use Rattle.std.specs.Prelude.{ℕ}
use Rattle.edb_lang.specs.declared.syntax.PatternNode.{PatternNode}
use Rattle.edb_lang.specs.declared.syntax.PatternNode.TheVariants as pattern
use Rattle.edb_lang.specs.declared.syntax.ExprNode.{ExprNode}
use Rattle.edb_lang.specs.declared.syntax.ExprNode.TheVariants.{Int, Atom, Var, Match, Binary, Call, Remote}
use Rattle.edb_lang.specs.Syntax.{Pat, Exp, exps_of, int, atom, variable, match, binary, call, remote}

abbrev pub exp_of : ℕ → ExprNode → Exp
exp_of l (Int i) = int l i
exp_of l (Atom a) = atom l a
exp_of l (Var x) = variable l x
exp_of l (Match p e) = match l p e.value
exp_of l (Binary o a b) = binary l o a.value b.value
exp_of l (Call f es) = call l f (exps_of es.items)
exp_of l (Remote m f es) = remote l m.value f.value (exps_of es.items)

abbrev pub pat_of : ℕ → PatternNode → Pat
pat_of l (pattern.Var x) = Pat.variable l x
