-- The hole once the redex is gone from it.

use Rattle.std.specs.Prelude.{ℕ, List, [], ◌∷◌, length, Option}
use Rattle.edb_lang.specs.Terms.{Datum, nil}
use Rattle.edb_moves.specs.Running.{Info}
use Rattle.edb_stack.specs.Parts as parts
use Rattle.edb_stack.specs.Holes.{hole_layers, hole_info}
use Rattle.edb_stack.specs.Redexes.{value_in}
use Rattle.edb_stack.specs.declared.layer.Layer.{Layer}
use Rattle.edb_stack.specs.declared.redex.Redex.{Redex}
use Rattle.edb_stack.specs.declared.redex.Redex.TheVariants.{Leaf, Apply, Value}
use Rattle.edb_path.specs.declared.plan.Plan.{Plan}
use Rattle.edb_path.specs.declared.plan.Plan.TheVariants.{Gives, Passes, Turns}
use Rattle.edb_stack.specs.declared.redex.Path.{Path}
use Rattle.edb_syntax.specs.Syntax.{Exp}
use Rattle.edb_running.specs.Rising.{IsNext}
use Rattle.edb_running.specs.Standing.{layers_in, info_in, pairs_in}
use Rattle.edb_running.specs.declared.running.Running.{Running}

-- the layers round the hole, as the code has them
abbrev pub code_behind : List Layer → Redex → List Layer
code_behind ls (Leaf l) = ls
code_behind ls (Apply o xs) = ls
code_behind [] (Value x) = []
code_behind (l ∷ ls) (Value x) = ls

-- the layers round the hole, and the innermost Body as the hole sees it
abbrev pub round_hole : Running → List parts.Layer
round_hole r = hole_layers (layers_in r) r.redex

abbrev pub hole_in : Running → Info
hole_in r = hole_info (layers_in r) (info_in r) r.redex

-- the value that fills the innermost layer; `[]` where none does
abbrev pub filled_by : Running → Redex → Datum
filled_by r (Leaf l) = nil
filled_by r (Apply o xs) = nil
filled_by r (Value x) = value_in (pairs_in r) x

abbrev pub filling : Running → Datum
filling r = filled_by r r.redex

-- how many layers a plan brings, and how many pairs
abbrev pub plan_count : Plan → ℕ
plan_count (Turns new w) = length w.layers.items
plan_count _ = 0

abbrev pub pair_count : Plan → ℕ
pair_count (Passes new) = length new.items
pair_count (Turns new w) = length new.items
pair_count _ = 0

-- The way that a plan needs: where it leaves a value in the hole, the way to the code that is evaluated next.
abbrev pub HasWay : Plan → Option Path → Option Exp → Type 0
HasWay (Gives x) w e = IsNext w e
HasWay (Passes new) w e = IsNext w e
HasWay _ w e = Unit {0}
