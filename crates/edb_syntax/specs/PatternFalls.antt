-- Each pattern is smaller than the one that it is a part of.

use Rattle.std.specs.Prelude.{ℕ, ◌+◌, ◌≤◌, max, List, [], ◌∷◌}
use Rattle.std.proofs.Common.{arith}
use denote.Param.Weighed.{most}
use Rattle.edb_syntax.specs.declared.pattern.Pattern.TheDeep.{deep-PatternNode}
use Rattle.edb_syntax.specs.declared.pattern.PatternNode.{PatternNode}
use Rattle.edb_syntax.specs.declared.pattern.PatternNode.TheVariants as node
use Rattle.edb_syntax.specs.Patterns.{Pat, pats_of}
use Rattle.edb_syntax.specs.Sizes.{pattern_size, patterns_size}
use Rattle.edb_syntax.specs.PatternViews.{pat_of}

pub most_le-patterns_size : (ps : List Pat) → most (λ p. pattern_size p + 1) ps ≤ patterns_size (pats_of ps) + 1
most_le-patterns_size [] = omega arith
most_le-patterns_size (p ∷ ps) = omega (arith, most_le-patterns_size ps)

pub pat_falls : (l : ℕ) (n : PatternNode) → max (deep-PatternNode n) 0 ≤ pattern_size (pat_of l n)
pat_falls l (node.Int i) = omega arith
pat_falls l (node.Atom a) = omega arith
pat_falls l (node.Str s) = omega arith
pat_falls l (node.Var x) = omega arith
pat_falls l node.Any = omega arith
pat_falls l (node.Tuple ps) = omega (arith, most_le-patterns_size ps.items)
pat_falls l (node.List ps) = omega (arith, most_le-patterns_size ps.items)
pat_falls l (node.ListWithTail ps t) = omega (arith, most_le-patterns_size ps.items)
pat_falls l (node.Both p q) = omega arith
