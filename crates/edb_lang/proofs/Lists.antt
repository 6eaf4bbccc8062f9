-- The measure of recursions over slices of children: no child is larger than all of them together.

use Rattle.std.specs.Prelude.{ℕ, ◌+◌, ◌*◌, ◌≤◌, max, List, [], ◌∷◌}
use Rattle.std.proofs.Common.{◌≡◌, ap, arith, length, refl, Vec, Global}
use denote.Param.Weighed.{most}
use Rattle.edb_lang.specs.declared.syntax.Expr.TheDeep.{size-Expr}
use Rattle.edb_lang.specs.declared.term.Captured.{Captured}
use Rattle.edb_lang.specs.declared.term.FunValue.{FunValue}
use Rattle.edb_lang.specs.declared.term.FunValue.TheVariants.{Made}
use Rattle.edb_lang.specs.declared.term.Term.TheDeep.{deep-Captured, deep-FunValue, size-Captured, size-Term}
use Rattle.edb_lang.specs.Order.{count}
use Rattle.edb_lang.specs.Syntax.{Exp, exps_of, all_nodes}
use Rattle.edb_lang.specs.Terms.{Datum, of_list, sizes, captures_size}
use Rattle.edb_lang.specs.TermViews.{captures_in}

pub most-size_le-all_nodes : (es : List Exp) → most (λ e. size-Expr e) es ≤ 2 * (all_nodes (exps_of es) + 1)
most-size_le-all_nodes [] = omega arith
most-size_le-all_nodes (e ∷ es) = omega (arith, most-size_le-all_nodes es)

pub most-size_le-sizes : (ts : List Datum) → most (λ t. size-Term t) ts ≤ 4 * (sizes (of_list ts) + 1)
most-size_le-sizes [] = omega arith
most-size_le-sizes (t ∷ ts) = omega (arith, most-size_le-sizes ts)

pub most-size_le-captures_size : (cs : List Captured) → most (λ c. size-Captured c) cs ≤ 4 * (captures_size (captures_in cs) + 1) + 1
most-size_le-captures_size [] = omega arith
most-size_le-captures_size (c ∷ cs) = omega (arith, most-size_le-captures_size cs)

-- the same against the fun that holds them
pub most-size_le-deep : (cs : List Captured) → most (λ c. size-Captured c) cs ≤ 4 * most (λ c. deep-Captured c) cs + 1
most-size_le-deep [] = omega arith
most-size_le-deep (c ∷ cs) = omega (arith, most-size_le-deep cs)

pub most-size_le-made : {f : FunValue} {m : List ℕ} {v i a : ℕ} {cs : Vec Captured Global} {xs : List Captured} → f ≡ Made m v i a cs → xs ≡ cs.items → most (λ c. size-Captured c) xs ≤ 4 * deep-FunValue f + 1
most-size_le-made {cs = cs} {xs = xs} e items =
    let deep : deep-FunValue _ ≡ max (most deep-Captured cs.items) 0 = ap deep-FunValue e in
    let same : most size-Captured xs ≡ most size-Captured cs.items = ap (most size-Captured) items in
    omega (arith, most-size_le-deep cs.items, deep, same)

pub count-of_list : (ts : List Datum) → count (of_list ts) ≡ length ts
count-of_list [] = refl
count-of_list (t ∷ ts) = omega (arith, count-of_list ts)

pub ruleset lists = (count-of_list, most-size_le-all_nodes, most-size_le-sizes, most-size_le-captures_size, most-size_le-deep)
