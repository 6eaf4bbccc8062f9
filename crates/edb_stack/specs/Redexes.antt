-- What stands in the hole of the layers, as an expression and as the redex that the walk finds there.

use Rattle.std.specs.Prelude.{List, map}
use Rattle.edb_lang.specs.Terms.{Datum}
use Rattle.edb_lang.specs.Pairs.{Pairs}
use Rattle.edb_moves.specs.Running as run
use Rattle.edb_moves.specs.Running.{Frame, Run, none, node}
use Rattle.edb_stack.specs.Trees.{item_value, before}
use Rattle.edb_stack.specs.Views.{item_of, doing_of, leaf_of}
use Rattle.edb_stack.specs.declared.item.Item.{Item}
use Rattle.edb_stack.specs.declared.redex.Redex.{Redex}
use Rattle.edb_stack.specs.declared.redex.Redex.TheVariants.{Leaf, Apply, Value}

-- the value of an operand, under the bindings of its Body
abbrev pub value_in : Pairs → Item → Datum
value_in bs x = item_value bs (item_of x)

-- the values of operands
abbrev pub values_in : Pairs → List Item → List Datum
values_in bs xs = map (value_in bs) xs

-- what stands in the hole, as an expression
abbrev pub redex_tree : Pairs → Redex → Run
redex_tree bs (Leaf l) = run.leaf (leaf_of l)
redex_tree bs (Apply o xs) = node (doing_of o) (before bs (map item_of xs.items) none)
redex_tree bs (Value x) = run.value (value_in bs x)
