-- Layers that go, and what is left where a raise lands.

use Rattle.std.proofs.Common.{◌≡◌, ◌≤◌, ◌<◌, ◌+◌, ◌-◌, ℕ, zero, suc, List, [], ◌∷◌, ◌++◌, length, length-append, drop, slice_get, Option, None, Some, refl, ap, sym, subst, ◌∙◌, arith}
use Rattle.std.specs.Option.{option_map_or}
use Rattle.edb_lang.specs.declared.small.Class.{Class}
use Rattle.edb_lang.specs.Terms.{Datum}
use Rattle.edb_lang.specs.Pairs.{Pairs}
use Rattle.edb_moves.specs.Running.{Info, Run, Runs, more, value, leaf, unbegun, value_of}
use Rattle.edb_moves.specs.Going.{Place, turns, raises, if_some}
use Rattle.edb_moves.specs.Clauses.{Choice, handler}
use Rattle.edb_pure.specs.declared.Raise.{Raise}
use Rattle.edb_variables.specs.PairStacks.{oldest}
use Rattle.edb_stack.specs.Bodies.{modules_of}
use Rattle.edb_stack.specs.Landings.{Landing, nowhere, lands, deeper, landing, after_landing, AllPass}
use Rattle.edb_stack.specs.Marks.{Agree, AllOpen, Marked}
use Rattle.edb_stack.specs.Holes.{hole_layers, hole_info}
use Rattle.edb_stack.specs.declared.item.Item as items
use Rattle.edb_stack.specs.declared.redex.Redex.TheVariants as redex
use Rattle.edb_running.specs.Vacant.{round_hole, hole_in}
use Rattle.edb_stack.specs.Parts.{Item, Layer, operands, frame, scope, caught, tried, waiting, body}
use Rattle.edb_stack.specs.Places.{out}
use Rattle.edb_stack.specs.Trees.{before, outward, plug}
use Rattle.edb_stack.specs.Views.{info_of, layer_of, layers_of, leaf_of}
use Rattle.edb_stack.specs.Paths.{IsFilled, RedexBelow}
use Rattle.edb_stack.specs.declared.redex.Leaf as leaves
use Rattle.edb_stack.specs.declared.body.Body.{Body}
use Rattle.edb_stack.specs.declared.layer.Layer as code
use Rattle.edb_stack.specs.declared.layer.Layer.TheVariants as layer
use Rattle.edb_stack.proofs.Landing.{raise_lands}
use Rattle.edb_stack.proofs.MarkLaws.{length_oldest, widen, agree_push, agree_cut}
use Rattle.edb_stack.proofs.OpenLayers.{all_open, all_pass}
use Rattle.edb_stack.proofs.Turned.{turned}
use Rattle.edb_running.specs.Landed.{info_at, mark_of, mark_at, landed_pairs, landed_tree, Extends, IsLanding}
use Rattle.edb_running.specs.Standing.{layers_in, info_in, pairs_in, tree_in, Holds, Sound}
use Rattle.edb_running.specs.declared.landing.Landing as told
use Rattle.edb_running.specs.declared.landing.Landed.TheVariants as landed
use Rattle.edb_running.specs.declared.running.Running.{Running}
use Rattle.edb_running.proofs.CommitLaws.{rebound, tree_by}
use Rattle.edb_running.proofs.DepthLaws.{modules_same}
use Rattle.edb_running.proofs.SoundLaws.{holds_by, more_bodies}

-- OUTSIDE OF A LAYER
marked_out : (l : Layer) (ls : List Layer) (i : Info) → Marked (l ∷ ls) (length i.bindings) → Marked ls (length (outward l i).bindings)
marked_out (operands o done rest) ls i m = m.1
marked_out (body o) ls i m = m
marked_out (frame f) ls i m = m
marked_out (scope k) ls i m = subst (Marked ls) (sym (length_oldest k i.bindings m.0)) m.1
marked_out (caught k) ls i m = widen ls k (length i.bindings) m.0 m.1
marked_out (tried k cs hs) ls i m = widen ls k (length i.bindings) m.0 m.1
marked_out (waiting k s) ls i m = widen ls k (length i.bindings) m.0 m.1

pub out_holds : (s r : Running) (l : code.Layer) → layers_in s ≡ layers_in r → info_in s ≡ outward (layer_of l) (info_in r) → Marked (layer_of l ∷ layers_in r) (length (pairs_in r))
    → s.bodies ≡ length (modules_of (layers_in r) (outward (layer_of l) (info_in r))) → Holds s
out_holds s r l e f m d = holds_by s (layers_in r) (outward (layer_of l) (info_in r)) e f (marked_out (layer_of l) (layers_in r) (info_in r) m) d

-- a layer that is no Body adds none
pub depth_out : (l : code.Layer) (ls : List Layer) (i : Info) → ((b : Body) → l ≡ layer.Body b → ⊥) → modules_of (layer_of l ∷ ls) i ≡ modules_of ls (outward (layer_of l) i)
unfolding modules_of
depth_out (layer.Operands o) ls i f = refl
depth_out (layer.Body b) ls i f = absurd (f b refl)
depth_out (layer.Sequence l es) ls i f = refl
depth_out (layer.Match q) ls i f = refl
depth_out (layer.Select cs) ls i f = refl
depth_out (layer.AndThen e) ls i f = refl
depth_out (layer.OrThen e) ls i f = refl
depth_out (layer.Generate q e qs) ls i f = refl
depth_out (layer.Filter e qs) ls i f = refl
depth_out (layer.Gather d v) ls i f = refl
depth_out (layer.Resume o) ls i f = refl
depth_out (layer.Scope m) ls i f = refl
depth_out (layer.Caught m) ls i f = refl
depth_out (layer.Tried m cs hs) ls i f = refl
depth_out (layer.Waiting m s) ls i f = refl

-- a Body does
pub depth_body : (b : Body) (ls : List Layer) (i : Info) → length (modules_of (body (info_of b) ∷ ls) i) ≡ length (modules_of ls (info_of b)) + 1
unfolding modules_of
depth_body b ls i = omega arith

-- what is neither a scope nor a Body sees what is outside of it
pub outward_kept : (l : code.Layer) (i : Info) → ((m : ℕ) → l ≡ layer.Scope m → ⊥) → ((b : Body) → l ≡ layer.Body b → ⊥) → i ≡ outward (layer_of l) i
outward_kept (layer.Operands o) i f g = refl
outward_kept (layer.Body b) i f g = absurd (g b refl)
outward_kept (layer.Sequence l es) i f g = refl
outward_kept (layer.Match q) i f g = refl
outward_kept (layer.Select cs) i f g = refl
outward_kept (layer.AndThen e) i f g = refl
outward_kept (layer.OrThen e) i f g = refl
outward_kept (layer.Generate q e qs) i f g = refl
outward_kept (layer.Filter e qs) i f g = refl
outward_kept (layer.Gather d v) i f g = refl
outward_kept (layer.Resume o) i f g = refl
outward_kept (layer.Scope m) i f g = absurd (f m refl)
outward_kept (layer.Caught m) i f g = refl
outward_kept (layer.Tried m cs hs) i f g = refl
outward_kept (layer.Waiting m s) i f g = refl

-- ONE LAYER LESS
pub drop_step : {X : Type 0} (n : ℕ) (x : X) (xs : List X) → 0 < n → drop (n - 1) xs ≡ drop n (x ∷ xs)
drop_step zero x xs h = absurd (omega (arith, h))
drop_step (suc n) x xs h = let e : suc n - 1 ≡ n = omega arith in ap (λ k. drop k xs) e

pub info_step : (n : ℕ) (l : Layer) (ls : List Layer) (i : Info) → 0 < n → info_at (n - 1) ls (outward l i) ≡ info_at n (l ∷ ls) i
info_step zero l ls i h = absurd (omega (arith, h))
info_step (suc n) l ls i h = let e : suc n - 1 ≡ n = omega arith in ap (λ k. info_at k ls (outward l i)) e

pub layers_dropped : (n : ℕ) (ls : List code.Layer) → layers_of (drop n ls) ≡ drop n (layers_of ls)
layers_dropped zero ls = refl
layers_dropped (suc n) [] = refl
layers_dropped (suc n) (l ∷ ls) = layers_dropped n ls

-- WHERE A RAISE LANDS, by the marks
record There (ls : List Layer) (i : Info) (d : ℕ) (j : Info) : Type 0 where
  info : info_at (suc d) ls i ≡ j
  mark : mark_at d ls ≤ length j.bindings
  marked : Marked (drop (suc d) ls) (mark_at d ls)

shallower : {P : Type 0} (x : Landing) (d : ℕ) (j : Info) (bs : Pairs) (t : Run) → deeper x ≡ lands d j bs t → ((k : ℕ) → d ≡ suc k → x ≡ lands k j bs t → P) → P
shallower nowhere d j bs t e go = absurd (cc)
shallower (lands k i cs u) d j bs t e go = go k (cc) (cc)

further : (l : Layer) (ls : List Layer) (i : Info) (d k : ℕ) (j : Info) → d ≡ suc k → There ls (outward l i) k j → There (l ∷ ls) i d j
further l ls i d k j e t = subst (λ n. There (l ∷ ls) i n j) (sym e) (record { info = t.info; mark = t.mark; marked = t.marked })

here : (l : Layer) (ls : List Layer) (i j : Info) (d : ℕ) → d ≡ 0 → outward l i ≡ j → mark_of l ≤ length j.bindings → Marked ls (mark_of l) → There (l ∷ ls) i d j
here l ls i j d e o m k = subst (λ n. There (l ∷ ls) i n j) (sym e) (record { info = o; mark = m; marked = k })

by_handler : (me : ℕ) (l : Layer) (ls : List Layer) (i : Info) (x : Landing) (k : Choice) (d : ℕ) (j : Info) (bs : Pairs) (t : Run) → outward l i ≡ i → mark_of l ≤ length i.bindings → Marked ls (mark_of l)
    → ((n : ℕ) → x ≡ lands n j bs t → There ls i n j) → if_some k (λ b. lands 0 i b.0 (leaf (unbegun b.1))) (deeper x) ≡ lands d j bs t → There (l ∷ ls) i d j
by_handler me l ls i x (Some b) d j bs t o m k later e =
    let n : d ≡ 0 = cc in
    let same : i ≡ j = cc in
    here l ls i j d n (o ∙ same) (subst (λ a. mark_of l ≤ length a.bindings) same m) k
by_handler me l ls i x None d j bs t o m k later e =
    shallower x d j bs t e (λ n is at. further l ls i d n j is (subst (λ a. There ls a n j) (sym o) (later n at)))

there : (me : ℕ) (ls : List Layer) (i : Info) (c : Class) (v : Datum) (d : ℕ) (j : Info) (bs : Pairs) (t : Run) → Marked ls (length i.bindings) → landing me ls i c v ≡ lands d j bs t → There ls i d j
unfolding landing
there me [] i c v d j bs t m e = absurd (cc)
there me (operands o done rest ∷ ls) i c v d j bs t m e =
    shallower (landing me ls i c v) d j bs t e (λ k is at. further (operands o done rest) ls i d k j is (there me ls i c v k j bs t m.1 at))
there me (frame f ∷ ls) i c v d j bs t m e =
    shallower (landing me ls i c v) d j bs t e (λ k is at. further (frame f) ls i d k j is (there me ls i c v k j bs t m at))
there me (scope n ∷ ls) i c v d j bs t m e =
    shallower (landing me ls (outward (scope n) i) c v) d j bs t e
    (λ k is at. further (scope n) ls i d k j is (there me ls (outward (scope n) i) c v k j bs t (marked_out (scope n) ls i m) at))
there me (body o ∷ ls) i c v d j bs t m e =
    shallower (landing me ls o c v) d j bs t e (λ k is at. further (body o) ls i d k j is (there me ls o c v k j bs t m at))
there me (caught n ∷ ls) i c v d j bs t m e =
    let z : d ≡ 0 = cc in
    let same : i ≡ j = cc in
    here (caught n) ls i j d z same (subst (λ a. n ≤ length a.bindings) same m.0) m.1
there me (waiting n s ∷ ls) i c v d j bs t m e =
    let z : d ≡ 0 = cc in
    let same : i ≡ j = cc in
    here (waiting n s) ls i j d z same (subst (λ a. n ≤ length a.bindings) same m.0) m.1
there me (tried n cs hs ∷ ls) i c v d j bs t m e =
    by_handler me (tried n cs hs) ls i (landing me ls i c v) (handler me (oldest n i.bindings) hs c v) d j bs t refl m.0 m.1
    (λ k at. there me ls i c v k j bs t (widen ls n (length i.bindings) m.0 m.1) at) e

pub record Lands (me : ℕ) (r : Raise) (ls : List Layer) (i : Info) (l : told.Landing) : Type 0 where
  pub at : Info
  pub bindings : Pairs
  pub tree : Run
  pub there : landing me ls i r.class r.reason ≡ lands l.depth at bindings tree
  pub info : info_at (l.depth + 1) ls i ≡ at
  pub mark : l.mark ≤ length at.bindings
  pub marked : Marked (drop (l.depth + 1) ls) l.mark
  pub pairs_are : bindings ≡ landed_pairs l.landed (oldest l.mark at.bindings)
  pub tree_is : tree ≡ landed_tree l.landed r
  pub extends : Extends l.landed (oldest l.mark at.bindings)

pub lands_there : (me : ℕ) (r : Raise) (ls : List Layer) (i : Info) (l : told.Landing) → Marked ls (length i.bindings) → IsLanding r ls (landing me ls i r.class r.reason) (Some l) → Lands me r ls i l
lands_there me r ls i l m is = go (landing me ls i r.class r.reason) refl is
  where
    go : (x : Landing) → landing me ls i r.class r.reason ≡ x → IsLanding r ls x (Some l) → Lands me r ls i l
    go nowhere e h = absurd h
    go (lands d j bs t) e h =
        let s : There ls i d j = there me ls i r.class r.reason d j bs t m e in
        let n : suc d ≡ l.depth + 1 = omega (arith, h.0) in
        record {
          at = j;
          bindings = bs;
          tree = t;
          there = e ∙ ap (λ k. lands k j bs t) (sym h.0);
          info = ap (λ k. info_at k ls i) (sym n) ∙ s.info;
          mark = subst (λ k. k ≤ length j.bindings) (sym h.1) s.mark;
          marked = subst (Marked (drop (l.depth + 1) ls)) (sym h.1) (subst (λ k. Marked (drop k ls) (mark_at d ls)) n s.marked);
          pairs_are = h.2;
          tree_is = h.3;
          extends = h.4;
        }

-- what comes out of a raise that lands so
pub raised_out : (p : Place) (me : ℕ) (r : Raise) (cs : List code.Layer) (i : Info) (l : told.Landing) (s : Lands me r (layers_of cs) i l) → p.me ≡ me
    → out p (drop (l.depth + 1) (layers_of cs)) s.at (turns s.bindings s.tree) ≡ out p (layers_of cs) i (raises r.class r.reason)
raised_out p me r cs i l s same =
    let n : suc l.depth ≡ l.depth + 1 = omega arith in
    sym
    (raise_lands p (layers_of cs) i r.class r.reason (all_pass cs)
    ∙ ap (λ a. after_landing p (layers_of cs) r.class r.reason (landing a (layers_of cs) i r.class r.reason)) same
    ∙ ap (after_landing p (layers_of cs) r.class r.reason) s.there
    ∙ ap (λ k. out p (drop k (layers_of cs)) s.at (turns s.bindings s.tree)) n)

-- AGREEMENT goes both ways, and on
agree_back : (ls : List Layer) (a b : Pairs) → Agree ls a b → Agree ls b a
agree_back [] a b g = tt
agree_back (operands o done rest ∷ ls) a b g = (λ ts. sym (g.0 ts), agree_back ls a b g.1)
agree_back (frame f ∷ ls) a b g = agree_back ls a b g
agree_back (scope m ∷ ls) a b g = sym g
agree_back (caught m ∷ ls) a b g = (sym g.0, agree_back ls a b g.1)
agree_back (tried m cs hs ∷ ls) a b g = (sym g.0, agree_back ls a b g.1)
agree_back (waiting m s ∷ ls) a b g = (sym g.0, agree_back ls a b g.1)
agree_back (body o ∷ ls) a b g = tt

agree_on : (ls : List Layer) (a b c : Pairs) → Agree ls a b → Agree ls b c → Agree ls a c
agree_on [] a b c g h = tt
agree_on (operands o done rest ∷ ls) a b c g h = (λ ts. g.0 ts ∙ h.0 ts, agree_on ls a b c g.1 h.1)
agree_on (frame f ∷ ls) a b c g h = agree_on ls a b c g h
agree_on (scope m ∷ ls) a b c g h = g ∙ h
agree_on (caught m ∷ ls) a b c g h = (g.0 ∙ h.0, agree_on ls a b c g.1 h.1)
agree_on (tried m cs hs ∷ ls) a b c g h = (g.0 ∙ h.0, agree_on ls a b c g.1 h.1)
agree_on (waiting m s ∷ ls) a b c g h = (g.0 ∙ h.0, agree_on ls a b c g.1 h.1)
agree_on (body o ∷ ls) a b c g h = tt

-- WHAT IS KEPT says the same to the layers, also with newer pairs
pub agree_kept : (ls : List Layer) (m : ℕ) (a : Pairs) → m ≤ length a → Marked ls m → Agree ls a (oldest m a)
agree_kept ls m a h k = agree_back ls (oldest m a) a (agree_cut ls m a h k)

pub agree_new : (ls : List Layer) (m : ℕ) (a new : Pairs) → m ≤ length a → Marked ls m → Agree ls a (new ++ oldest m a)
agree_new ls m a new h k =
    agree_on ls a (oldest m a) (new ++ oldest m a) (agree_kept ls m a h k) (agree_push ls new (oldest m a) (subst (Marked ls) (sym (length_oldest m a h)) k))

-- a value there, and a tree
pub value_there : (p : Place) (ls : List Layer) (j : Info) (m : ℕ) (v : Datum) → AllOpen ls → m ≤ length j.bindings → Marked ls m
    → out p ls (record j { bindings = oldest m j.bindings }) (turns (oldest m j.bindings) (value v)) ≡ out p ls j (turns (oldest m j.bindings) (value v))
value_there p ls j m v a h k = sym (rebound p ls j (oldest m j.bindings) v a (agree_kept ls m j.bindings h k))

pub tree_there : (p : Place) (ls : List Layer) (j : Info) (bs : Pairs) (t : Run) → AllOpen ls → Agree ls j.bindings bs → value_of t ≡ None
    → turns p.bindings (plug ls (record j { bindings = bs }) t) ≡ out p ls j (turns bs t)
tree_there p ls j bs t a g e = sym (turned p ls j bs t a g e)

-- a raise that lands nowhere
pub nowhere_out : (p : Place) (me : ℕ) (r : Raise) (ls : List Layer) (cs : List code.Layer) (i : Info) → layers_of cs ≡ ls → IsLanding r ls (landing me ls i r.class r.reason) None → p.me ≡ me
    → raises r.class r.reason ≡ out p ls i (raises r.class r.reason)
nowhere_out p me r ls cs i e is same =
    sym
    (raise_lands p ls i r.class r.reason (subst AllPass e (all_pass cs))
    ∙ ap (λ a. after_landing p ls r.class r.reason (landing a ls i r.class r.reason)) same
    ∙ go (landing me ls i r.class r.reason) is)
  where
    go : (x : Landing) → IsLanding r ls x None → after_landing p ls r.class r.reason x ≡ raises r.class r.reason
    go nowhere h = refl
    go (lands d j bs t) h = absurd h

-- THE HOLE of a layer that a value fills
pub hole_filled : (r : Running) (x : items.Item) (l : code.Layer) → r.redex ≡ redex.Value x → r.layers.0 ≡ l ∷ drop 1 r.layers.0 → (layers_of (drop 1 r.layers.0) ≡ round_hole r) × (outward (layer_of l) (info_in r) ≡ hole_in r)
hole_filled r x l e f =
    let rest : List code.Layer = drop 1 r.layers.0 in (
      ap (λ ls. hole_layers (layers_of ls) (redex.Value x)) (sym f) ∙ ap (hole_layers (layers_in r)) (sym e),
      ap (λ ls. hole_info (layers_of ls) (info_in r) (redex.Value x)) (sym f) ∙ ap (hole_info (layers_in r) (info_in r)) (sym e),
    )

pub no_layer : (ls : List code.Layer) → slice_get ls 0 ≡ None → ls ≡ []
no_layer [] e = refl
no_layer (l ∷ ls) e = absurd (cc)

pub hole_bare : (me : ℕ) (a : Raise) (r : Running) (x : items.Item) → r.redex ≡ redex.Value x → r.layers.0 ≡ [] → IsLanding a (round_hole r) (landing me (round_hole r) (hole_in r) a.class a.reason) None
unfolding landing
hole_bare me a r x e f =
    let none : [] ≡ round_hole r = ap (λ ls. hole_layers (layers_of ls) (redex.Value x)) (sym f) ∙ ap (hole_layers (layers_in r)) (sym e) in
    subst (λ ls. IsLanding a ls (landing me ls (hole_in r) a.class a.reason) None) none tt

-- AFTER THE LAYERS WENT and the pairs were cut, where a raise lands
pub record Kept (fs : List Layer) (j : Info) (m : ℕ) (h : Running) : Type 0 where
  pub layers : layers_in h ≡ fs
  pub info : info_in h ≡ record j { bindings = oldest m j.bindings }
  pub holds : Holds h

pub kept_there : (me : ℕ) (r : Raise) (cs : List code.Layer) (i : Info) (l : told.Landing) (s : Lands me r (layers_of cs) i l) (u h : Running) → u.layers.0 ≡ drop (l.depth + 1) cs
    → info_in u ≡ info_at (l.depth + 1) (layers_of cs) i → Holds u → h.layers ≡ u.layers → info_in h ≡ record (info_in u) { bindings = oldest l.mark (pairs_in u) } → h.bodies ≡ u.bodies
    → Kept (layers_of (drop (l.depth + 1) cs)) s.at l.mark h
kept_there me r cs i l s u h left info held layers cut bodies =
    let fs : List Layer = layers_of (drop (l.depth + 1) cs) in
    let here_ : layers_in h ≡ fs = ap (λ k. layers_of k.0) layers ∙ ap layers_of left in
    let seen : info_in h ≡ record s.at { bindings = oldest l.mark s.at.bindings } = cut ∙ ap (λ (a : Info). record a { bindings = oldest l.mark a.bindings }) (info ∙ s.info) in
    let among : Marked fs l.mark = subst (λ ls. Marked ls l.mark) (sym (layers_dropped (l.depth + 1) cs)) s.marked in
    record {
      layers = here_;
      info = seen;
      holds = holds_by h fs (record s.at { bindings = oldest l.mark s.at.bindings }) here_ seen
          (subst (Marked fs) (sym (length_oldest l.mark s.at.bindings s.mark)) among)
          (bodies ∙ held.depth ∙ ap (λ ls. length (modules_of ls (info_in u))) (ap layers_of left) ∙ ap (λ a. length (modules_of fs a)) (info ∙ s.info)
          ∙ ap length (sym (modules_same fs s.at (oldest l.mark s.at.bindings))));
    }

-- a value is left there
pub value_lands : (p : Place) (me : ℕ) (r : Raise) (cs : List code.Layer) (i : Info) (l : told.Landing) (s : Lands me r (layers_of cs) i l) (h : Running) (v : Datum) → Kept (layers_of (drop (l.depth + 1) cs)) s.at l.mark h
    → l.landed ≡ landed.Value v → p.me ≡ me → out p (layers_in h) (info_in h) (turns (pairs_in h) (value v)) ≡ out p (layers_of cs) i (raises r.class r.reason)
value_lands p me r cs i l s h v k is same =
    let fs : List Layer = layers_of (drop (l.depth + 1) cs) in
    let among : Marked fs l.mark = subst (λ ls. Marked ls l.mark) (sym (layers_dropped (l.depth + 1) cs)) s.marked in
    let kept : Pairs = oldest l.mark s.at.bindings in
    ap (λ ls. out p ls (info_in h) (turns (pairs_in h) (value v))) k.layers ∙ ap (λ a. out p fs a (turns a.bindings (value v))) k.info
    ∙ value_there p fs s.at l.mark v (all_open (drop (l.depth + 1) cs)) s.mark among
    ∙ ap (λ bs. out p fs s.at (turns bs (value v))) (sym (s.pairs_are ∙ ap (λ a. landed_pairs a kept) is))
    ∙ ap (λ t. out p fs s.at (turns s.bindings t)) (sym (s.tree_is ∙ ap (λ a. landed_tree a r) is))
    ∙ ap (λ ls. out p ls s.at (turns s.bindings s.tree)) (layers_dropped (l.depth + 1) cs) ∙ raised_out p me r cs i l s same

-- a tree is left there, under bindings that add to what is kept
pub tree_lands : (p : Place) (me : ℕ) (r : Raise) (cs : List code.Layer) (i : Info) (l : told.Landing) (s : Lands me r (layers_of cs) i l) (g : Running) (x : leaves.Leaf) (bs new : Pairs)
    → layers_in g ≡ layers_of (drop (l.depth + 1) cs) → info_in g ≡ record s.at { bindings = bs } → g.redex ≡ redex.Leaf x → s.bindings ≡ bs → s.tree ≡ leaf (leaf_of x)
    → bs ≡ new ++ oldest l.mark s.at.bindings → p.me ≡ me → turns p.bindings (tree_in g) ≡ out p (layers_of cs) i (raises r.class r.reason)
tree_lands p me r cs i l s g x bs new e f h pairs tree adds same =
    let fs : List Layer = layers_of (drop (l.depth + 1) cs) in
    let among : Marked fs l.mark = subst (λ ls. Marked ls l.mark) (sym (layers_dropped (l.depth + 1) cs)) s.marked in
    ap (turns p.bindings) (tree_by g fs (record s.at { bindings = bs }) (redex.Leaf x) e f h)
    ∙ tree_there p fs s.at bs (leaf (leaf_of x)) (all_open (drop (l.depth + 1) cs)) (subst (Agree fs s.at.bindings) (sym adds) (agree_new fs l.mark s.at.bindings new s.mark among)) refl
    ∙ ap (λ as_. out p fs s.at (turns as_ (leaf (leaf_of x)))) (sym pairs) ∙ ap (λ t. out p fs s.at (turns s.bindings t)) (sym tree)
    ∙ ap (λ ls. out p ls s.at (turns s.bindings s.tree)) (layers_dropped (l.depth + 1) cs) ∙ raised_out p me r cs i l s same

pub tree_sound : (me : ℕ) (r : Raise) (cs : List code.Layer) (i : Info) (l : told.Landing) (s : Lands me r (layers_of cs) i l) (h g : Running) (x : leaves.Leaf) (bs new : Pairs) → Kept (layers_of (drop (l.depth + 1) cs)) s.at l.mark h
    → layers_in g ≡ layers_of (drop (l.depth + 1) cs) → info_in g ≡ record s.at { bindings = bs } → g.redex ≡ redex.Leaf x → g.bodies ≡ h.bodies → bs ≡ new ++ oldest l.mark s.at.bindings → Sound g
tree_sound me r cs i l s h g x bs new k e f w count adds =
    let fs : List Layer = layers_of (drop (l.depth + 1) cs) in
    let among : Marked fs l.mark = subst (λ ls. Marked ls l.mark) (sym (layers_dropped (l.depth + 1) cs)) s.marked in
    let more_ : length bs ≡ length new + l.mark = ap length adds ∙ length-append new (oldest l.mark s.at.bindings) ∙ ap (λ n. length new + n) (length_oldest l.mark s.at.bindings s.mark) in
    let least : l.mark ≤ length bs = omega (arith, more_) in
    record {
      holds = holds_by g fs (record s.at { bindings = bs }) e f (widen fs l.mark (length bs) least among)
          (count ∙ k.holds.depth ∙ ap (λ ls. length (modules_of ls (info_in h))) k.layers ∙ ap (λ a. length (modules_of fs a)) k.info
          ∙ ap length (modules_same fs s.at (oldest l.mark s.at.bindings) ∙ sym (modules_same fs s.at bs)));
      below = subst (RedexBelow (length (pairs_in g))) (sym w) tt;
      filled = subst (IsFilled (layers_in g)) (sym w) tt;
    }
