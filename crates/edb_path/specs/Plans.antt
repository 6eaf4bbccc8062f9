-- What a plan makes of a redex.

use Rattle.std.specs.Prelude.{◌+◌, ℕ, List, [], ◌∷◌, ◌++◌, length}
use Rattle.edb_lang.specs.Terms.{Datum}
use Rattle.edb_lang.specs.Pairs.{Pairs}
use Rattle.edb_variables.specs.PairStacks.{newest_first}
use Rattle.edb_moves.specs.Running.{Run, value, leaf, unbegun, body}
use Rattle.edb_moves.specs.Going.{Place, Effect, turns, leaves, raises}
use Rattle.edb_stack.specs.Marks.{AllBelow}
use Rattle.edb_stack.specs.Paths.{outer, path_layers, path_tree, Leads}
use Rattle.edb_stack.specs.Redexes.{value_in}
use Rattle.edb_stack.specs.Views.{info_of, item_of}
use Rattle.edb_path.specs.declared.plan.Plan.{Plan}
use Rattle.edb_path.specs.declared.plan.Plan.TheVariants.{Gives, Passes, Turns, Enters, Replaces, Raises}

-- The effect of a plan in a hole. `v`: the value that fills the innermost layer, where one does.
abbrev pub effect : Place → Datum → Plan → Effect Run
effect p v (Gives x) = turns p.bindings (value (value_in p.bindings x))
effect p v (Passes new) = turns (newest_first new.items ++ p.bindings) (value v)
effect p v (Turns new w) =
    let bs : Pairs = newest_first new.items ++ p.bindings in
    turns (outer (path_layers w) bs) (path_tree bs w)
effect p v (Enters b s) = turns p.bindings (body (info_of b) (leaf (unbegun s.now)))
effect p v (Replaces b s) = leaves (body (info_of b) (leaf (unbegun s.now)))
effect p v (Raises r) = raises r.class r.reason

-- A plan whose marks and places are among the pairs, of which there are so many.
abbrev pub Suits : ℕ → Plan → Type 0
Suits n (Gives x) = AllBelow n (item_of x ∷ [])
Suits n (Passes new) = Unit {0}
Suits n (Turns new w) = Leads n (length new.items + n) w
Suits n (Enters b s) = Unit {0}
Suits n (Replaces b s) = Unit {0}
Suits n (Raises r) = Unit {0}
