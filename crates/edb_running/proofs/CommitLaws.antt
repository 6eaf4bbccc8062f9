-- What comes out of a hole, after pairs were bound or a way was put there.

use Rattle.std.proofs.Common.{◌≡◌, ◌≤◌, ◌+◌, ℕ, List, [], ◌∷◌, ◌++◌, None, length, unwrap_or, refl, ap, sym, subst, ◌∙◌, arith}
use Rattle.std.proofs.lemmas.List.{length-append}
use Rattle.edb_lang.specs.Terms.{Datum, nil}
use Rattle.edb_lang.specs.Pairs.{Pairs}
use Rattle.edb_lang.specs.declared.term.Captured.{Captured}
use Rattle.edb_variables.specs.PairStacks.{oldest, newest_first}
use Rattle.edb_variables.proofs.Stacks.{length-newest_first}
use Rattle.edb_moves.specs.Running as run
use Rattle.edb_moves.specs.Running.{Info, Run, node, around, more, value, value_of, all_running}
use Rattle.edb_moves.specs.Going.{Place, turns}
use Rattle.edb_stack.specs.Parts.{Layer, operands, frame, scope, caught, tried, waiting, body}
use Rattle.edb_stack.specs.Trees.{before, plug}
use Rattle.edb_stack.specs.Places.{place, out}
use Rattle.edb_stack.specs.Marks.{AllBelow, AllOpen, Agree, Marked}
use Rattle.edb_stack.specs.Paths.{outer, wrapped, Fit}
use Rattle.edb_stack.proofs.MarkLaws.{value_behind, oldest_all, oldest_behind}
use Rattle.edb_stack.proofs.PathLaws.{plug_wrapped}
use Rattle.edb_stack.proofs.Turned.{turned, place_bindings}
use Rattle.edb_stack.specs.Redexes.{value_in, redex_tree}
use Rattle.edb_stack.specs.Views.{item_of, layers_of}
use Rattle.edb_stack.specs.declared.item.Item.{Item}
use Rattle.edb_stack.specs.declared.item.Item.TheVariants as item
use Rattle.edb_stack.specs.declared.layer.Layer as code
use Rattle.edb_stack.specs.declared.redex.Redex.{Redex}
use Rattle.edb_stack.specs.declared.redex.Redex.TheVariants.{Leaf, Apply, Value}
use Rattle.edb_stack.specs.Holes.{hole_layers}
use Rattle.edb_path.specs.Plans.{effect}
use Rattle.edb_path.specs.declared.plan.Plan.{Plan}
use Rattle.edb_running.specs.Vacant.{code_behind, round_hole, hole_in, filling}
use Rattle.edb_running.specs.Standing.{layers_in, info_in, pairs_in, tree_in}
use Rattle.edb_running.specs.declared.running.Running.{Running}
use Rattle.edb_running.proofs.RiseLaws.{put}

-- A VALUE UNDER OTHER BINDINGS, of which the layers see the same: it comes out as if these were those of the hole
pub rebound : (p : Place) (ls : List Layer) (i : Info) (bs : Pairs) (v : Datum) → AllOpen ls → Agree ls i.bindings bs
    → out p ls i (turns bs (value v)) ≡ out p ls (record i { bindings = bs }) (turns bs (value v))
unfolding out
rebound p [] i bs v a g = refl
rebound p (operands o done rest ∷ ls) i bs v a g =
    turned p ls i bs (node o (before i.bindings done (more (value v) (all_running rest)))) a g.1 refl
    ∙ ap (λ ts. turns p.bindings (plug ls (record i { bindings = bs }) (node o ts))) (g.0 (more (value v) (all_running rest)))
    ∙ sym (put p ls (record i { bindings = bs }) (node o (before bs done (more (value v) (all_running rest)))) a refl)
rebound p (frame f ∷ ls) i bs v a g =
    let j : Info = record i { bindings = bs } in
    ap (out p ls i) (a.0.turns (place p ls i) bs (value v)) ∙ turned p ls i bs (around f (value v)) a.1 g refl
    ∙ sym (put p ls j (around f (value v)) a.1 refl) ∙ ap (out p ls j) (sym (a.0.turns (place p ls j) bs (value v)))
rebound p (scope m ∷ ls) i bs v a g =
    ap (λ cs. out p ls (record i { bindings = cs }) (turns (place p ls (record i { bindings = cs })).bindings (around (run.scope bs) (value v)))) g
rebound p (caught m ∷ ls) i bs v a g =
    turned p ls i bs (around (run.caught (oldest m i.bindings)) (value v)) a g.1 refl
    ∙ ap (λ ds. turns p.bindings (plug ls (record i { bindings = bs }) (around (run.caught ds) (value v)))) g.0
    ∙ sym (put p ls (record i { bindings = bs }) (around (run.caught (oldest m bs)) (value v)) a refl)
rebound p (tried m cs hs ∷ ls) i bs v a g =
    turned p ls i bs (around (run.tried (oldest m i.bindings) cs hs) (value v)) a g.1 refl
    ∙ ap (λ ds. turns p.bindings (plug ls (record i { bindings = bs }) (around (run.tried ds cs hs) (value v)))) g.0
    ∙ sym (put p ls (record i { bindings = bs }) (around (run.tried (oldest m bs) cs hs) (value v)) a refl)
rebound p (waiting m s ∷ ls) i bs v a g =
    turned p ls i bs (around (run.waiting (oldest m i.bindings) s) (value v)) a g.1 refl
    ∙ ap (λ ds. turns p.bindings (plug ls (record i { bindings = bs }) (around (run.waiting ds s) (value v)))) g.0
    ∙ sym (put p ls (record i { bindings = bs }) (around (run.waiting (oldest m bs) s) (value v)) a refl)
rebound p (body o ∷ ls) i bs v a g = refl

-- A WAY PUT INTO A HOLE with newer pairs: what comes out of the hole is the layers with it
pub turned_led : (p : Place) (ws fs : List Layer) (i : Info) (new : Pairs) (t : Run) → AllOpen fs → Fit (length i.bindings) (length (new ++ i.bindings)) ws → Marked fs (length i.bindings)
    → value_of (wrapped ws (new ++ i.bindings) t) ≡ None
    → turns p.bindings (plug (ws ++ fs) (record i { bindings = new ++ i.bindings }) t) ≡ out p fs i (turns (outer ws (new ++ i.bindings)) (wrapped ws (new ++ i.bindings) t))
turned_led p ws fs i new t a f m e =
    let bs : Pairs = new ++ i.bindings in
    let old : oldest (length i.bindings) bs ≡ i.bindings = oldest_behind (length i.bindings) new i.bindings (itself (length i.bindings)) ∙ oldest_all i.bindings in
    ap (turns p.bindings) (plug_wrapped ws fs (record i { bindings = bs }) t f.within)
    ∙ sym (turned p fs i (outer ws bs) (wrapped ws bs t) a (subst (λ cs. Agree fs cs (outer ws bs)) old (f.keeps bs fs refl m)) e)
  where
    itself : (n : ℕ) → n ≤ n
    itself n = omega arith

-- the expression by its parts
pub tree_by : (r : Running) (ls : List Layer) (i : Info) (x : Redex) → layers_in r ≡ ls → info_in r ≡ i → r.redex ≡ x → tree_in r ≡ plug ls i (redex_tree i.bindings x)
tree_by r ls i x e f g = ap (λ ks. plug ks (info_in r) (redex_tree (pairs_in r) r.redex)) e ∙ ap (λ j. plug ls j (redex_tree j.bindings r.redex)) f ∙ ap (λ y. plug ls i (redex_tree i.bindings y)) g

-- how many pairs there are with newer ones
pub count_new : (new : List Captured) (bs : Pairs) → length new + length bs ≡ length (newest_first new ++ bs)
count_new new bs = sym (length-append (newest_first new) bs ∙ ap (λ n. n + length bs) (length-newest_first new))

-- a call round which there is what was innermost
pub entered : (p : Place) (ls : List Layer) (i j : Info) (t : Run) → AllOpen ls → turns p.bindings (plug (body i ∷ ls) j t) ≡ out p ls i (turns (place p ls i).bindings (run.body j t))
unfolding plug
entered p ls i j t a = sym (put p ls i (run.body j t) a refl) ∙ ap (λ bs. out p ls i (turns bs (run.body j t))) (sym (place_bindings p ls i a))

-- an item under newer pairs
pub item_behind : (new bs : Pairs) (x : Item) → AllBelow (length bs) (item_of x ∷ []) → value_in (new ++ bs) x ≡ value_in bs x
item_behind new bs (item.Value v) b = refl
item_behind new bs (item.Placed k) b = ap (λ o. unwrap_or o nil) (value_behind k new bs b.0)
item_behind new bs (item.Literal e) b = refl

-- the layers round the hole, by those of the code
pub behind_layers : (ls : List code.Layer) (x : Redex) → layers_of (code_behind ls x) ≡ hole_layers (layers_of ls) x
behind_layers ls (Leaf l) = refl
behind_layers ls (Apply o xs) = refl
behind_layers [] (Value v) = refl
behind_layers (l ∷ ls) (Value v) = refl

-- AFTER THE REDEX WENT: what a plan is in the hole, by the parts that are left
pub in_hole : (p : Place) (r s : Running) (v : Datum) (a : Plan) → s.layers.0 ≡ code_behind r.layers.0 r.redex → info_in s ≡ hole_in r → v ≡ filling r
    → out p (layers_in s) (info_in s) (effect (place p (layers_in s) (info_in s)) v a) ≡ out p (round_hole r) (hole_in r) (effect (place p (round_hole r) (hole_in r)) (filling r) a)
in_hole p r s v a e f g =
    let ls : layers_in s ≡ round_hole r = ap layers_of e ∙ behind_layers r.layers.0 r.redex in
    ap (λ ks. out p ks (info_in s) (effect (place p ks (info_in s)) v a)) ls
    ∙ ap (λ i. out p (round_hole r) i (effect (place p (round_hole r) i) v a)) f
    ∙ ap (λ w. out p (round_hole r) (hole_in r) (effect (place p (round_hole r) (hole_in r)) w a)) g
