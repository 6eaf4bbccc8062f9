-- Each term is larger than the terms that it is made of.

use Rattle.std.specs.Prelude.{◌+◌, ◌≤◌, max, List, [], ◌∷◌}
use Rattle.std.proofs.Common.{arith}
use denote.Param.Weighed.{most}
use Rattle.edb_lang.specs.declared.term.Term.TheDeep.{deep-Node, deep-FunValue, deep-Captured}
use Rattle.edb_lang.specs.declared.term.Captured.{Captured}
use Rattle.edb_lang.specs.declared.term.FunValue.{FunValue}
use Rattle.edb_lang.specs.declared.term.FunValue.TheVariants.{Made, Named}
use Rattle.edb_lang.specs.declared.term.Node.{Node}
use Rattle.edb_lang.specs.declared.term.Node.TheVariants.{Int, Atom, Ref, Fun, Pid, Tuple, Nil, List as Cons}
use Rattle.edb_lang.specs.Terms.{Datum, of_list, size, sizes, captures_size}
use Rattle.edb_lang.specs.Pairs.{captures_of}
use Rattle.edb_lang.specs.TermViews.{pairs_of, fun_of, datum_of}

pub most_le-sizes : (ts : List Datum) → most (λ t. size t + 1) ts ≤ sizes (of_list ts) + 1
most_le-sizes [] = omega arith
most_le-sizes (t ∷ ts) = omega (arith, most_le-sizes ts)

pub most_le-captures_size : (cs : List Captured) → most (λ c. deep-Captured c) cs ≤ captures_size (captures_of (pairs_of cs)) + 1
most_le-captures_size [] = omega arith
most_le-captures_size (c ∷ cs) = omega (arith, most_le-captures_size cs)

pub fun_falls : (f : FunValue) → deep-FunValue f ≤ size (fun_of f)
fun_falls (Made m v i a cs) = omega (arith, most_le-captures_size cs.items)
fun_falls (Named m f a) = omega arith

pub node_falls : (n : Node) → max (deep-Node n) 0 ≤ size (datum_of n)
node_falls (Int i) = omega arith
node_falls (Atom a) = omega arith
node_falls (Ref r) = omega arith
node_falls (Fun f) = omega (arith, fun_falls f.value)
node_falls (Pid p) = omega arith
node_falls (Tuple ts) = omega (arith, most_le-sizes ts.items)
node_falls Nil = omega arith
node_falls (Cons c) = omega arith
