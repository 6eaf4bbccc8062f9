-- What holds of a machine's parts after a move.

use Rattle.std.proofs.Common.{◌≡◌, ◌<◌, ◌≤◌, ◌+◌, ◌-◌, true, ◌∷◌, [], ◌++◌, ℕ, suc, List, length, arith, refl, ap, sym, subst, ◌∙◌}
use Rattle.edb_syntax.specs.Syntax.{Exp}
use Rattle.edb_moves.specs.Running.{Info}
use Rattle.edb_stack.specs.Parts as parts
use Rattle.edb_stack.specs.Parts.{operands, frame, scope, caught, tried, waiting, body}
use Rattle.edb_stack.specs.Trees.{outward}
use Rattle.edb_stack.specs.Marks.{Marked}
use Rattle.edb_stack.specs.Bodies.{modules_of}
use Rattle.edb_stack.specs.Paths.{waits, path_layers, Leads, IsFilled, RedexBelow}
use Rattle.edb_stack.specs.Views.{layer_of, layers_of, info_of}
use Rattle.edb_stack.specs.declared.body.Body.{Body}
use Rattle.edb_stack.specs.declared.doing.Doing.{Doing}
use Rattle.edb_stack.specs.declared.item.Item.{Item}
use Rattle.edb_stack.specs.declared.layer.Layer.{Layer}
use Rattle.edb_stack.specs.declared.layer.Layer.TheVariants as layer
use Rattle.edb_stack.specs.declared.redex.Path.{Path}
use Rattle.edb_stack.proofs.PathLaws.{filled_more}
use Rattle.edb_running.specs.Standing.{layers_in, info_in, pairs_in, Holds, Sound}
use Rattle.edb_running.specs.declared.running.Running.{Running}
use Rattle.edb_stack.proofs.MarkLaws.{widen, length_oldest}
use Rattle.edb_running.proofs.DepthLaws.{modules_behind}

-- AFTER A WAY was put into the hole of layers
pub sound_led : (s : Running) (w : Path) (fs : List parts.Layer) (k : ℕ) → layers_in s ≡ path_layers w ++ fs → s.redex ≡ w.redex → Leads k (length (pairs_in s)) w → Marked fs k
    → s.bodies ≡ length (modules_of fs (info_in s)) → Sound s
sound_led s w fs k ls r l m d = record {
  holds = record {
    marked = subst (λ xs. Marked xs (length (pairs_in s))) (sym ls) (l.fit.marked fs m);
    depth = d ∙ ap length (sym (modules_behind (path_layers w) fs (info_in s) l.fit.within)) ∙ ap (λ xs. length (modules_of xs (info_in s))) (sym ls);
  };
  below = subst (RedexBelow (length (pairs_in s))) (sym r) l.below;
  filled = subst (λ xs. IsFilled xs s.redex) (sym ls) (subst (IsFilled (path_layers w ++ fs)) (sym r) (filled_more (path_layers w) fs w.redex l.filled));
}

-- a layer that is neither operands nor a Body waits
pub layer_waits : (l : Layer) → ((o : Doing × List Item × List Exp) → l ≡ layer.Operands o → ⊥) → ((b : Body) → l ≡ layer.Body b → ⊥) → waits (layer_of l) ≡ true
layer_waits (layer.Operands o) f g = absurd (f o refl)
layer_waits (layer.Body b) f g = absurd (g b refl)
layer_waits (layer.Sequence l es) f g = refl
layer_waits (layer.Match q) f g = refl
layer_waits (layer.Select cs) f g = refl
layer_waits (layer.AndThen e) f g = refl
layer_waits (layer.OrThen e) f g = refl
layer_waits (layer.Generate q e qs) f g = refl
layer_waits (layer.Filter e qs) f g = refl
layer_waits (layer.Gather d v) f g = refl
layer_waits (layer.Resume o) f g = refl
layer_waits (layer.Scope m) f g = refl
layer_waits (layer.Caught m) f g = refl
layer_waits (layer.Tried m cs hs) f g = refl
layer_waits (layer.Waiting m s) f g = refl

pub more_bodies : (b : Body) (ls : List Layer) (i : Info) → length (modules_of (layers_of (layer.Body b ∷ ls)) i) ≡ suc (length (modules_of (layers_of ls) (info_of b)))
unfolding modules_of
more_bodies b ls i = refl

some_bodies : (ls : List parts.Layer) (i : Info) → 0 < length (modules_of ls i)
unfolding modules_of
some_bodies [] i = omega arith
some_bodies (body o ∷ ls) i = let h : 0 < length (modules_of ls o) = some_bodies ls o in omega (arith, h)
some_bodies (scope m ∷ ls) i = some_bodies ls (outward (scope m) i)
some_bodies (operands o done rest ∷ ls) i = some_bodies ls i
some_bodies (frame f ∷ ls) i = some_bodies ls i
some_bodies (caught m ∷ ls) i = some_bodies ls i
some_bodies (tried m cs hs ∷ ls) i = some_bodies ls i
some_bodies (waiting m s ∷ ls) i = some_bodies ls i

-- AFTER THE INNERMOST BODY went
pub body_counts : (r : Running) (b : Body) (ls : List Layer) → r.layers.0 ≡ layer.Body b ∷ ls → Holds r → 1 < r.bodies
body_counts r b ls e h =
    let d : r.bodies ≡ suc (length (modules_of (layers_of ls) (info_of b))) = h.depth ∙ ap (λ xs. length (modules_of (layers_of xs) (info_in r))) e ∙ more_bodies b ls (info_in r) in
    let some : 0 < length (modules_of (layers_of ls) (info_of b)) = some_bodies (layers_of ls) (info_of b) in
    omega (arith, d, some)

pub body_gone : (r : Running) (s : Running) (b : Body) (ls : List Layer) → r.layers.0 ≡ layer.Body b ∷ ls → s.layers.0 ≡ ls → s.here ≡ b → s.bodies ≡ r.bodies - 1 → Holds r → Holds s
body_gone r s b ls e f g k h =
    let d : r.bodies ≡ suc (length (modules_of (layers_of ls) (info_of b))) = h.depth ∙ ap (λ xs. length (modules_of (layers_of xs) (info_in r))) e ∙ more_bodies b ls (info_in r) in
    let n : s.bodies ≡ length (modules_of (layers_of ls) (info_of b)) = omega (arith, d, k) in
    let m : Marked (layers_of ls) (length b.variables.pairs) = subst (λ xs. Marked (layers_of xs) (length (pairs_in r))) e h.marked in
    record {
      marked = subst (λ xs. Marked (layers_of xs) (length (pairs_in s))) (sym f) (subst (λ c. Marked (layers_of ls) (length c.variables.pairs)) (sym g) m);
      depth = n ∙ ap (λ c. length (modules_of (layers_of ls) (info_of c))) (sym g) ∙ ap (λ xs. length (modules_of (layers_of xs) (info_in s))) (sym f);
    }

-- What holds by the layers and the innermost Body
pub holds_by : (r : Running) (ls : List parts.Layer) (i : Info) → layers_in r ≡ ls → info_in r ≡ i → Marked ls (length i.bindings) → r.bodies ≡ length (modules_of ls i) → Holds r
holds_by r ls i e f m d = record {
  marked = subst (λ xs. Marked xs (length (pairs_in r))) (sym e) (subst (λ j. Marked ls (length j.bindings)) (sym f) m);
  depth = d ∙ ap (λ j. length (modules_of ls j)) (sym f) ∙ ap (λ xs. length (modules_of xs (info_in r))) (sym e);
}

-- BEHIND A LAYER THAT WAITS
pub marked_behind : (l : parts.Layer) (ls : List parts.Layer) (i : Info) → waits l ≡ true → Marked (l ∷ ls) (length i.bindings) → Marked ls (length (outward l i).bindings)
marked_behind (operands o done rest) ls i w m = absurd (cc)
marked_behind (body o) ls i w m = absurd (cc)
marked_behind (frame f) ls i w m = m
marked_behind (scope k) ls i w m = subst (Marked ls) (sym (length_oldest k i.bindings m.0)) m.1
marked_behind (caught k) ls i w m = widen ls k (length i.bindings) m.0 m.1
marked_behind (tried k cs hs) ls i w m = widen ls k (length i.bindings) m.0 m.1
marked_behind (waiting k s) ls i w m = widen ls k (length i.bindings) m.0 m.1

pub depth_behind : (l : parts.Layer) (ls : List parts.Layer) (i : Info) → waits l ≡ true → modules_of (l ∷ ls) i ≡ modules_of ls (outward l i)
unfolding modules_of
depth_behind (operands o done rest) ls i w = refl
depth_behind (body o) ls i w = absurd (cc)
depth_behind (frame f) ls i w = refl
depth_behind (scope k) ls i w = refl
depth_behind (caught k) ls i w = refl
depth_behind (tried k cs hs) ls i w = refl
depth_behind (waiting k s) ls i w = refl

pub outward_same : (l : Layer) (i : Info) → ((m : ℕ) → l ≡ layer.Scope m → ⊥) → waits (layer_of l) ≡ true → outward (layer_of l) i ≡ i
outward_same (layer.Operands o) i f w = refl
outward_same (layer.Body b) i f w = absurd (cc)
outward_same (layer.Scope m) i f w = absurd (f m refl)
outward_same (layer.Sequence l es) i f w = refl
outward_same (layer.Match q) i f w = refl
outward_same (layer.Select cs) i f w = refl
outward_same (layer.AndThen e) i f w = refl
outward_same (layer.OrThen e) i f w = refl
outward_same (layer.Generate q e qs) i f w = refl
outward_same (layer.Filter e qs) i f w = refl
outward_same (layer.Gather d v) i f w = refl
outward_same (layer.Resume o) i f w = refl
outward_same (layer.Caught m) i f w = refl
outward_same (layer.Tried m cs hs) i f w = refl
outward_same (layer.Waiting m s) i f w = refl

pub few_bodies : (ls : List parts.Layer) (i : Info) → length (modules_of ls i) ≤ length ls + 1
unfolding modules_of
few_bodies [] i = omega arith
few_bodies (body o ∷ ls) i = let h : length (modules_of ls o) ≤ length ls + 1 = few_bodies ls o in omega (arith, h)
few_bodies (scope m ∷ ls) i = let h : length (modules_of ls (outward (scope m) i)) ≤ length ls + 1 = few_bodies ls (outward (scope m) i) in omega (arith, h)
few_bodies (operands o done rest ∷ ls) i = let h : length (modules_of ls i) ≤ length ls + 1 = few_bodies ls i in omega (arith, h)
few_bodies (frame f ∷ ls) i = let h : length (modules_of ls i) ≤ length ls + 1 = few_bodies ls i in omega (arith, h)
few_bodies (caught m ∷ ls) i = let h : length (modules_of ls i) ≤ length ls + 1 = few_bodies ls i in omega (arith, h)
few_bodies (tried m cs hs ∷ ls) i = let h : length (modules_of ls i) ≤ length ls + 1 = few_bodies ls i in omega (arith, h)
few_bodies (waiting m s ∷ ls) i = let h : length (modules_of ls i) ≤ length ls + 1 = few_bodies ls i in omega (arith, h)
