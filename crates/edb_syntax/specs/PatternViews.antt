-- The pattern that contracts see, by the nodes of src/.

use Rattle.std.specs.Prelude.{ℕ}
use Rattle.edb_syntax.specs.declared.pattern.PatternNode.{PatternNode}
use Rattle.edb_syntax.specs.declared.pattern.PatternNode.TheVariants.{Int, Atom, Str, Var, Any, Tuple, List, ListWithTail, Both}
use Rattle.edb_syntax.specs.Patterns.{Pat, pats_of, int, atom, string, variable, any, tuple, list, list_with_tail, both}

abbrev pub pat_of : ℕ → PatternNode → Pat
pat_of l (Int i) = int l i
pat_of l (Atom a) = atom l a
pat_of l (Str s) = string l s.items
pat_of l (Var x) = variable l x
pat_of l Any = any l
pat_of l (Tuple ps) = tuple l (pats_of ps.items)
pat_of l (List ps) = list l (pats_of ps.items)
pat_of l (ListWithTail ps t) = list_with_tail l (pats_of ps.items) t.value
pat_of l (Both p q) = both l p.value q.value
