-- Operands, with one more of them evaluated.

use Rattle.std.proofs.Common.{◌≡◌, true, false, ℕ, List, [], ◌∷◌, ◌++◌, map, is_some, unwrap_or, Option, None, Some, refl, ap}
use Rattle.edb_lang.specs.Pairs.{Pairs}
use Rattle.edb_lang.specs.Terms.{Datum, nil}
use Rattle.edb_syntax.specs.Syntax.{Exp}
use Rattle.edb_moves.specs.Running.{Run, Runs, value, raised, leaf, node, around, body, more, value_of, running}
use Rattle.edb_stack.specs.Trees.{before}
use Rattle.edb_stack.specs.Marks.{AllBelow}
use Rattle.edb_stack.specs.Views.{literal, item_of}
use Rattle.edb_stack.specs.Redexes.{value_in}
use Rattle.edb_stack.specs.Feeding.{open_or}
use Rattle.edb_stack.specs.declared.item.Item.{Item}
use Rattle.edb_stack.specs.declared.item.Item.TheVariants as item

-- THE LAST of the operands that are evaluated
pub before_last : (bs : Pairs) (xs : List Item) (x : Item) (ts : Runs) → before bs (map item_of (xs ++ x ∷ [])) ts ≡ before bs (map item_of xs) (more (value (value_in bs x)) ts)
before_last bs [] x ts = refl
before_last bs (y ∷ xs) x ts = ap (more (value (value_in bs y))) (before_last bs xs x ts)

pub below_last : (n : ℕ) (xs : List Item) (x : Item) → AllBelow n (map item_of xs) → AllBelow n (item_of x ∷ []) → AllBelow n (map item_of (xs ++ x ∷ []))
below_last n [] x b c = c
below_last n (item.Value v ∷ xs) x b c = below_last n xs x b c
below_last n (item.Placed k ∷ xs) x b c = (b.0, below_last n xs x b.1 c)
below_last n (item.Literal e ∷ xs) x b c = below_last n xs x b c

-- a literal, as what runs
is_value : (t : Run) → true ≡ is_some (value_of t) → t ≡ value (unwrap_or (value_of t) nil)
is_value (value v) e = refl
is_value (raised c v) e = absurd (cc)
is_value (leaf l) e = absurd (cc)
is_value (node o ts) e = absurd (cc)
is_value (around f t) e = absurd (cc)
is_value (body i t) e = absurd (cc)

pub literal_runs : (e : Exp) → true ≡ is_some (value_of (running e)) → running e ≡ value (literal e)
literal_runs e h = is_value (running e) h

-- A LITERAL is passed, and what is none is found
pub literal_passed : (e : Exp) (o : Option Datum) (behind : Option Exp) → true ≡ is_some o → open_or e o behind ≡ behind
literal_passed e (Some v) behind h = refl
literal_passed e None behind h = absurd (cc)

pub open_found : (e : Exp) (o : Option Datum) (behind : Option Exp) → false ≡ is_some o → (open_or e o behind ≡ Some e) × (o ≡ None)
open_found e (Some v) behind h = absurd (cc)
open_found e None behind h = (refl, refl)
