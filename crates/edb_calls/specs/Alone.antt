-- A plan that needs nothing round the redex: no layers and no bindings come with it.

use Rattle.std.specs.Prelude.{◌≡◌, []}
use Rattle.edb_path.specs.declared.plan.Plan.{Plan}
use Rattle.edb_path.specs.declared.plan.Plan.TheVariants.{Gives, Passes, Turns, Enters, Replaces, Raises}
use Rattle.edb_stack.specs.declared.redex.Redex.{Redex}
use Rattle.edb_stack.specs.declared.redex.Redex.TheVariants.{Leaf, Apply, Value}

-- an operation on values
abbrev pub IsOperation : Redex → Type 0
IsOperation (Apply o xs) = Unit {0}
IsOperation _ = ⊥

-- a value, an operation on values, a Body, or a raise
abbrev pub IsAlone : Plan → Type 0
IsAlone (Turns new w) = (new.items ≡ []) × (w.layers.items ≡ []) × IsOperation w.redex
IsAlone (Passes new) = ⊥
IsAlone _ = Unit {0}
