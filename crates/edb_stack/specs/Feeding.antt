-- Operands, while one after the other is evaluated.

use Rattle.std.specs.Prelude.{ℕ, List, [], ◌∷◌, map, Option, None, Some}
use Rattle.edb_lang.specs.Pairs.{Pairs}
use Rattle.edb_lang.specs.Terms.{Datum}
use Rattle.edb_syntax.specs.Syntax.{Exp, exps_of}
use Rattle.edb_moves.specs.Running.{Run, node, none, value_of, running}
use Rattle.edb_stack.specs.Parts.{Layer, operands}
use Rattle.edb_stack.specs.Trees.{before, round}
use Rattle.edb_stack.specs.Marks.{AllBelow}
use Rattle.edb_stack.specs.Views.{item_of, doing_of}
use Rattle.edb_stack.specs.declared.doing.Doing.{Doing}
use Rattle.edb_stack.specs.declared.item.Item.{Item}
use Rattle.edb_stack.specs.declared.operands.Fed.{Fed}
use Rattle.edb_stack.specs.declared.operands.Fed.TheVariants.{Full, Hole}

-- an expression, where it is no literal, and else what is found behind it
abbrev pub open_or : Exp → Option Datum → Option Exp → Option Exp
open_or e (Some v) behind = behind
open_or e None behind = Some e

-- the first of these that is no literal
abbrev pub first_open : List Exp → Option Exp
first_open [] = None
first_open (e ∷ es) = open_or e (value_of (running e)) (first_open es)

-- operands of which one is being evaluated, as a layer
abbrev pub operands_layer : Doing × List Item × List Exp → Layer
operands_layer o = operands (doing_of o.0) (map item_of o.1) (exps_of o.2)

-- what operands come to, as an expression
abbrev pub fed_tree : Pairs → Fed → Run
fed_tree bs (Full o xs) = node (doing_of o) (before bs (map item_of xs.items) none)
fed_tree bs (Hole o e) = round bs (operands_layer o) (running e.now)

-- the operand that is evaluated next
abbrev pub fed_code : Fed → Option Exp
fed_code (Full o xs) = None
fed_code (Hole o e) = Some e.now

-- those that are evaluated have their places among so many pairs
abbrev pub FedBelow : ℕ → Fed → Type 0
FedBelow n (Full o xs) = AllBelow n (map item_of xs.items)
FedBelow n (Hole o e) = AllBelow n (map item_of o.1)
