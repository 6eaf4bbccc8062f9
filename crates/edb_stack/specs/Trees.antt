-- The running expression for which layers and what stands in their hole stand.

use Rattle.std.specs.Prelude.{List, [], ◌∷◌, unwrap_or}
use Rattle.edb_lang.specs.Terms.{Datum, nil}
use Rattle.edb_lang.specs.Pairs.{Pairs}
use Rattle.edb_variables.specs.PairStacks.{oldest, value_at}
use Rattle.edb_moves.specs.Running as run
use Rattle.edb_moves.specs.Running.{Info, Frame, Run, Runs, node, around, more, value, all_running}
use Rattle.edb_stack.specs.Parts.{Item, held, placed, Layer, operands, frame, scope, caught, tried, waiting, body}

-- the value of an operand, under the bindings of its Body
abbrev pub item_value : Pairs → Item → Datum
item_value bs (held v) = v
item_value bs (placed k) = unwrap_or (value_at k bs) nil

-- operands that are evaluated, before others
abbrev pub before : Pairs → List Item → Runs → Runs
before bs [] ts = ts
before bs (x ∷ xs) ts = more (value (item_value bs x)) (before bs xs ts)

-- a layer round a tree, under the bindings of the hole
abbrev pub round : Pairs → Layer → Run → Run
round bs (operands o done rest) t = node o (before bs done (more t (all_running rest)))
round bs (frame f) t = around f t
round bs (scope m) t = around (run.scope bs) t
round bs (caught m) t = around (run.caught (oldest m bs)) t
round bs (tried m cs hs) t = around (run.tried (oldest m bs) cs hs) t
round bs (waiting m s) t = around (run.waiting (oldest m bs) s) t
round bs (body o) t = t

-- the innermost Body, seen from outside of a layer: a scope keeps the pairs that it added to itself
abbrev pub outward : Layer → Info → Info
outward (scope m) i = record i { bindings = oldest m i.bindings }
outward (body o) i = o
outward _ i = i

-- what is put into the next layer: a Body comes round it where that is the next one outward
abbrev pub enclosed : Layer → Info → Run → Run
enclosed (body o) i t = run.body i t
enclosed l i t = round i.bindings l t

-- the whole expression: the layers, and the innermost Body round the hole, round a tree
unfoldable pub plug : List Layer → Info → Run → Run
plug [] i t = run.body i t
plug (l ∷ ls) i t = plug ls (outward l i) (enclosed l i t)
