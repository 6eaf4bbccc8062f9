-- Parts in a slice: no part is larger than all of them together, which measures recursions; how many there are; one
-- more behind them.

use Rattle.std.specs.Prelude.{◌≡◌, ◌+◌, ◌*◌, ◌≤◌, List, [], ◌∷◌, ◌++◌, length, refl}
use Rattle.std.proofs.Common.{ap, arith}
use denote.Param.Weighed.{most}
use Rattle.edb_syntax.specs.declared.clause.CatchClause.TheDeep.{size-Expr, size-GuardTest, size-Alternative, size-Clause, size-CatchClause, size-Qualifier}
use Rattle.edb_syntax.specs.declared.pattern.Pattern.TheDeep.{size-Pattern}
use Rattle.edb_syntax.specs.Patterns.{Pat, pats_of, pats_count}
use Rattle.edb_syntax.specs.Syntax.{Exp, Exps, ClauseTree, CatchTree, QualifierTree, exps_of, guards_of, clauses_of, catches_of, qualifiers_of, more, count}
use Rattle.edb_syntax.specs.Forms.{with_last}
use Rattle.edb_syntax.specs.Sizes.{patterns_size, size, sizes, clause_size, catch_size, alternatives_size, clauses_size, catches_size, qualifiers_size}

pub most-size_le-patterns_size : (ps : List Pat) → most (λ p. size-Pattern p) ps ≤ 2 * (patterns_size (pats_of ps) + 1)
most-size_le-patterns_size [] = omega arith
most-size_le-patterns_size (p ∷ ps) = omega (arith, most-size_le-patterns_size ps)

pub most-size_le-sizes : (es : List Exp) → most (λ e. size-Expr e) es ≤ 2 * (sizes (exps_of es) + 1)
most-size_le-sizes [] = omega arith
most-size_le-sizes (e ∷ es) = omega (arith, most-size_le-sizes es)

pub most-size_le-test_sizes : (es : List Exp) → most (λ e. size-GuardTest e) es ≤ 2 * (sizes (exps_of es) + 2)
most-size_le-test_sizes [] = omega arith
most-size_le-test_sizes (e ∷ es) = omega (arith, most-size_le-test_sizes es)

pub most-size_le-alternatives_size : (gs : List Exps) → most (λ es. size-Alternative es) gs ≤ 2 * (alternatives_size (guards_of gs) + 3)
most-size_le-alternatives_size [] = omega arith
most-size_le-alternatives_size (es ∷ gs) = omega (arith, most-size_le-alternatives_size gs)

pub most-size_le-clauses_size : (cs : List ClauseTree) → most (λ c. size-Clause c) cs ≤ 2 * (clauses_size (clauses_of cs) + 1)
most-size_le-clauses_size [] = omega arith
most-size_le-clauses_size (c ∷ cs) = omega (arith, most-size_le-clauses_size cs)

pub most-size_le-catches_size : (cs : List CatchTree) → most (λ c. size-CatchClause c) cs ≤ 2 * (catches_size (catches_of cs) + 1)
most-size_le-catches_size [] = omega arith
most-size_le-catches_size (c ∷ cs) = omega (arith, most-size_le-catches_size cs)

pub most-size_le-qualifiers_size : (qs : List QualifierTree) → most (λ q. size-Qualifier q) qs ≤ 2 * (qualifiers_size (qualifiers_of qs) + 1)
most-size_le-qualifiers_size [] = omega arith
most-size_le-qualifiers_size (q ∷ qs) = omega (arith, most-size_le-qualifiers_size qs)

-- the same against the node that holds them, for a recursion on nodes
pub most-size_le-most_sizes : (es : List Exp) → most (λ e. size-Expr e) es ≤ 2 * most (λ e. size e + 1) es
most-size_le-most_sizes [] = omega arith
most-size_le-most_sizes (e ∷ es) = omega (arith, most-size_le-most_sizes es)

pub most-size_le-most_clauses : (cs : List ClauseTree) → most (λ c. size-Clause c) cs ≤ 2 * most (λ c. clause_size c + 1) cs
most-size_le-most_clauses [] = omega arith
most-size_le-most_clauses (c ∷ cs) = omega (arith, most-size_le-most_clauses cs)

pub most-size_le-most_catches : (cs : List CatchTree) → most (λ c. size-CatchClause c) cs ≤ 2 * most (λ c. catch_size c + 1) cs
most-size_le-most_catches [] = omega arith
most-size_le-most_catches (c ∷ cs) = omega (arith, most-size_le-most_catches cs)

pub count-pats_of : (ps : List Pat) → pats_count (pats_of ps) ≡ length ps
count-pats_of [] = refl
count-pats_of (p ∷ ps) = omega (arith, count-pats_of ps)

pub count-exps_of : (es : List Exp) → count (exps_of es) ≡ length es
count-exps_of [] = refl
count-exps_of (e ∷ es) = omega (arith, count-exps_of es)

pub exps_of-push : (es : List Exp) (e : Exp) → exps_of (es ++ e ∷ []) ≡ with_last (exps_of es) e
exps_of-push [] e = refl
exps_of-push (d ∷ es) e = ap (more d) (exps_of-push es e)

pub ruleset lists = (
  most-size_le-patterns_size,
  most-size_le-sizes,
  most-size_le-test_sizes,
  most-size_le-alternatives_size,
  most-size_le-clauses_size,
  most-size_le-catches_size,
  most-size_le-qualifiers_size,
  count-pats_of,
  count-exps_of,
  exps_of-push,
)
