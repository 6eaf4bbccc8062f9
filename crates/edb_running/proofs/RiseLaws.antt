-- A value in the hole of layers, taken outward by one layer.

use Rattle.std.proofs.Common.{◌≡◌, true, List, [], ◌∷◌, ◌++◌, None, refl, ap, sym, ◌∙◌}
use Rattle.edb_lang.specs.Terms.{Datum}
use Rattle.edb_lang.specs.Pairs.{Pairs}
use Rattle.edb_variables.specs.PairStacks.{oldest}
use Rattle.edb_moves.specs.Running as run
use Rattle.edb_moves.specs.Running.{Info, Run, around, value, value_of}
use Rattle.edb_moves.specs.Going.{Place, turns}
use Rattle.edb_stack.specs.Parts.{Layer, operands, frame, scope, caught, tried, waiting, body}
use Rattle.edb_stack.specs.Trees.{round, outward, plug}
use Rattle.edb_stack.specs.Feeding.{operands_layer}
use Rattle.edb_stack.specs.declared.doing.Doing.{Doing}
use Rattle.edb_stack.specs.declared.item.Item.{Item}
use Rattle.edb_syntax.specs.Syntax.{Exp}
use Rattle.edb_stack.specs.Places.{place, out}
use Rattle.edb_stack.specs.Marks.{AllOpen}
use Rattle.edb_stack.specs.Paths.{outer, wrapped, waits, OneBody}
use Rattle.edb_stack.proofs.Turned.{place_bindings, agree_itself, turned}
use Rattle.edb_stack.proofs.PathLaws.{plug_wrapped}

-- A TREE that is no value, in the hole: the layers stand round it
pub put : (p : Place) (ls : List Layer) (i : Info) (t : Run) → AllOpen ls → value_of t ≡ None → out p ls i (turns i.bindings t) ≡ turns p.bindings (plug ls i t)
put p ls i t a e = turned p ls i i.bindings t a (agree_itself ls i.bindings) e

-- A BODY whose sequence is a value is that value, under the bindings outside
pub ended : (p : Place) (ls : List Layer) (i o : Info) (bs : Pairs) (v : Datum) → AllOpen ls → out p (body o ∷ ls) i (turns bs (value v)) ≡ out p ls o (turns o.bindings (value v))
unfolding out
ended p ls i o bs v a = ap (λ cs. out p ls o (turns cs (value v))) (place_bindings p ls o a)

-- A LAYER THAT WAITS is filled
pub filled : (p : Place) (l : Layer) (ls : List Layer) (i : Info) (v : Datum) → AllOpen (l ∷ ls) → waits l ≡ true
    → out p (l ∷ ls) i (turns i.bindings (value v)) ≡ turns p.bindings (plug (l ∷ ls) i (value v))
unfolding out plug
filled p (operands o done rest) ls i v a w = absurd (cc)
filled p (body o) ls i v a w = absurd (cc)
filled p (frame f) ls i v a w = ap (out p ls i) (a.0.turns (place p ls i) i.bindings (value v)) ∙ put p ls i (around f (value v)) a.1 refl
filled p (scope m) ls i v a w =
    let j : Info = outward (scope m) i in
    ap (λ cs. out p ls j (turns cs (around (run.scope i.bindings) (value v)))) (place_bindings p ls j a) ∙ put p ls j (around (run.scope i.bindings) (value v)) a refl
filled p (caught m) ls i v a w = put p ls i (around (run.caught (oldest m i.bindings)) (value v)) a refl
filled p (tried m cs hs) ls i v a w = put p ls i (around (run.tried (oldest m i.bindings) cs hs) (value v)) a refl
filled p (waiting m s) ls i v a w = put p ls i (around (run.waiting (oldest m i.bindings) s) (value v)) a refl

-- A WAY is put into the hole: what it leads to stands there
pub led : (ls fs : List Layer) (i : Info) (t u : Run) → OneBody ls → outer ls i.bindings ≡ i.bindings → wrapped ls i.bindings t ≡ u → plug (ls ++ fs) i t ≡ plug fs i u
led ls fs i t u b o w = plug_wrapped ls fs i t b ∙ ap (λ bs. plug fs (record i { bindings = bs }) (wrapped ls i.bindings t)) o ∙ ap (plug fs i) w

-- OPERANDS get a value: what they come to stands in their place
pub fed : (p : Place) (o : Doing × List Item × List Exp) (ls : List Layer) (i : Info) (v : Datum) (t : Run) → AllOpen ls → t ≡ round i.bindings (operands_layer o) (value v) → value_of t ≡ None
    → turns p.bindings (plug ls i t) ≡ out p (operands_layer o ∷ ls) i (turns i.bindings (value v))
unfolding out plug
fed p o ls i v t a r e = sym (put p ls i t a e) ∙ ap (λ u. out p ls i (turns i.bindings u)) r

-- and where one more is evaluated, the way to its redex
pub fed_on : (p : Place) (o q : Doing × List Item × List Exp) (ws ls : List Layer) (i : Info) (v : Datum) (t u : Run) → AllOpen ls → round i.bindings (operands_layer q) u ≡ round i.bindings (operands_layer o) (value v)
    → OneBody ws → outer ws i.bindings ≡ i.bindings → wrapped ws i.bindings t ≡ u
    → turns p.bindings (plug (ws ++ (operands_layer q ∷ ls)) i t) ≡ out p (operands_layer o ∷ ls) i (turns i.bindings (value v))
unfolding plug
fed_on p o q ws ls i v t u a r b g w =
    ap (turns p.bindings) (led ws (operands_layer q ∷ ls) i t u b g w) ∙ fed p o ls i v (round i.bindings (operands_layer q) u) a r refl

-- outside of all layers the whole expression is the value
pub at_end : (p : Place) (i : Info) (bs : Pairs) (v : Datum) → out p [] i (turns bs (value v)) ≡ turns p.bindings (value v)
unfolding out
at_end p i bs v = refl
