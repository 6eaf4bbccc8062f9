-- The moves of a small module, counted by hand: two numbers are added and the sum is displayed.

use Rattle.std.specs.Prelude.{◌≡◌, ℕ, zero, suc, refl, pos, true, false, Bool, ◌&&◌, List, [], ◌∷◌, Option, None, Some, codes}
use Rattle.edb_lang.specs.declared.small.Op.TheVariants.{Add}
use Rattle.edb_lang.specs.Terms as term
use Rattle.edb_lang.specs.Syntax.{Pat, Exp, Exps, FunctionTree, ModuleTree}
use Rattle.edb_lang.specs.Syntax as syntax
use Rattle.edb_lang.specs.declared.act.ActKind.TheVariants as act
use Rattle.edb_model.specs.Running.{Run, value, opening_call}
use Rattle.edb_model.specs.Lookup.{first_versions}
use Rattle.edb_model.specs.Move.{Next, begins, acts, pure, next, redex, moved, answered, go}

abbrev main_function : FunctionTree
main_function = record {
  name = codes "main";
  parameters = [];
  first = syntax.match 4 (syntax.variable 4 (codes "X")) (syntax.call 4 (codes "sum") (syntax.more (syntax.int 4 (pos 2)) (syntax.more (syntax.int 4 (pos 3)) syntax.none)));
  rest = syntax.more (syntax.remote 5 (syntax.atom 5 (codes "erlang")) (syntax.atom 5 (codes "display")) (syntax.more (syntax.variable 5 (codes "X")) syntax.none)) syntax.none;
}

abbrev sum_function : FunctionTree
sum_function = record {
  name = codes "sum";
  parameters = syntax.variable 6 (codes "A") ∷ syntax.variable 6 (codes "B") ∷ [];
  first = syntax.match 7 (syntax.variable 7 (codes "C")) (syntax.binary 7 Add (syntax.variable 7 (codes "A")) (syntax.variable 7 (codes "B")));
  rest = syntax.more (syntax.variable 8 (codes "C")) syntax.none;
}

abbrev shop : List ModuleTree
shop = record { name = codes "shop"; exports = record { name = codes "main"; arity = 0 } ∷ []; functions = main_function ∷ sum_function ∷ [] } ∷ []

-- after n moves
abbrev after : ℕ → Run
after zero = opening_call (codes "shop") (codes "main") []
after (suc n) = moved shop (first_versions shop) (after n)

m0 : next (after 0) ≡ pure
unfolding next redex moved go
m0 = refl

m1 : next (after 1) ≡ begins (codes "shop") 4
unfolding next redex moved go
m1 = refl

m3 : next (after 3) ≡ begins (codes "shop") 7
unfolding next redex moved go
m3 = refl

m9 : next (after 9) ≡ begins (codes "shop") 8
unfolding next redex moved go
m9 = refl

m14 : next (after 14) ≡ begins (codes "shop") 5
unfolding next redex moved go
m14 = refl

m15 : next (after 15) ≡ pure
unfolding next redex moved go
m15 = refl

m16 : next (after 16) ≡ acts act.Print
unfolding next redex moved go
m16 = refl
