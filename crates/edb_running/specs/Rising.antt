-- A value that goes outward: through Bodies, which it ends, to the innermost layer that has a use for it.

use Rattle.std.specs.Prelude.{◌≡◌, ℕ, List, [], ◌∷◌, length, Option, None, Some}
use Rattle.edb_lang.specs.Pairs.{Pairs}
use Rattle.edb_syntax.specs.Syntax.{Exp}
use Rattle.edb_moves.specs.Running.{Run, value, running}
use Rattle.edb_moves.specs.Going.{Place, Effect, turns, raises}
use Rattle.edb_stack.specs.Paths.{outer, path_layers, path_tree, Leads}
use Rattle.edb_stack.specs.Redexes.{value_in}
use Rattle.edb_stack.specs.Feeding.{first_open}
use Rattle.edb_stack.specs.declared.layer.Layer.{Layer}
use Rattle.edb_stack.specs.declared.layer.Layer.TheVariants as layer
use Rattle.edb_stack.specs.declared.redex.Path.{Path}
use Rattle.edb_running.specs.Standing.{tree_in, Sound}
use Rattle.edb_running.specs.declared.running.Running.{Running}
use Rattle.edb_running.specs.declared.rise.Left.{Left}
use Rattle.edb_running.specs.declared.rise.Left.TheVariants.{Stays, Ends, Raises}

-- the code that is evaluated next, once what stands in the hole of these layers is a value
abbrev pub next_code : List Layer → Option Exp
next_code [] = None
next_code (layer.Operands o ∷ ls) = first_open o.2
next_code (layer.Body b ∷ ls) = next_code ls
next_code (_ ∷ ls) = None

-- the way to the redex of this code, wherever it is put
pub record Serves (e : Exp) (p : Path) : Type 0 where
  pub tree : (bs : Pairs) → path_tree bs p ≡ running e
  pub outer : (bs : Pairs) → outer (path_layers p) bs ≡ bs
  pub leads : (n : ℕ) → Leads n n p

-- the way to the code that is evaluated next, where some is
abbrev pub IsNext : Option Path → Option Exp → Type 0
IsNext None None = Unit {0}
IsNext (Some p) (Some e) = Serves e p
IsNext _ _ = ⊥

-- how many layers a way has
abbrev pub next_count : Option Path → ℕ
next_count None = 0
next_count (Some p) = length p.layers.items

-- what is left of an expression after a move: it stands, or it is a value or an exception
abbrev pub left_of : Place → Running → Left → Effect Run
left_of p r Stays = turns p.bindings (tree_in r)
left_of p r (Ends x) = turns p.bindings (value (value_in [] x))
left_of p r (Raises e) = raises e.class e.reason

-- an expression that still runs is whole
abbrev pub IsSound : Left → Running → Type 0
IsSound Stays r = Sound r
IsSound (Ends x) r = Unit {0}
IsSound (Raises e) r = Unit {0}
