-- The Bodies among layers, read from the inside outward.

use Rattle.std.proofs.Common.{◌≡◌, ◌∙◌, ◌+◌, ℕ, zero, suc, arith, List, [], ◌∷◌, drop, slice_get, Option, None, Some, Bor, refl, sym, ap}
use Rattle.std.specs.Option.{option_or, option_map_or}
use Rattle.edb_stack.specs.declared.body.Body.{Body}
use Rattle.edb_calls.specs.declared.site.Site.{Site}
use Rattle.edb_calls.specs.Sites.{bodies_at}
use Rattle.edb_moves.specs.Versions.{version_beside, by_name}
use Rattle.edb_stack.specs.declared.layer.Layer.{Layer as Layers}
use Rattle.edb_stack.specs.Views.{info_of, layer_of, layers_of}
use Rattle.edb_moves.specs.Running.{Info}
use Rattle.edb_stack.specs.Parts.{Layer, operands, frame, scope, caught, tried, waiting, body}
use Rattle.edb_stack.specs.Bodies.{modules_of}
use Rattle.edb_stack.specs.Trees.{outward}
use Rattle.edb_calls.specs.Layered.{bodies_in}

-- the innermost Body, and then those
pub innermost_first : (ls : List Layer) (i : Info) → modules_of ls i ≡ (i.home, i.version) ∷ bodies_in ls
unfolding modules_of
innermost_first [] i = refl
innermost_first (body o ∷ ls) i = ap (λ bs. (i.home, i.version) ∷ bs) (innermost_first ls o)
innermost_first (scope m ∷ ls) i = innermost_first ls (outward (scope m) i)
innermost_first (operands o done rest ∷ ls) i = innermost_first ls i
innermost_first (frame f ∷ ls) i = innermost_first ls i
innermost_first (caught m ∷ ls) i = innermost_first ls i
innermost_first (tried m cs hs ∷ ls) i = innermost_first ls i
innermost_first (waiting m s ∷ ls) i = innermost_first ls i

one_more : (i : ℕ) → suc i ≡ i + 1
one_more i = omega arith

-- the items from a place on
from_here : {X : Type 0} (xs : List X) (i : ℕ) (x : X) → slice_get xs i ≡ Some x → drop i xs ≡ x ∷ drop (suc i) xs
from_here [] i x e = absurd (cc)
from_here (y ∷ xs) zero x e = cc
from_here (y ∷ xs) (suc i) x e = from_here xs i x e

-- THE VERSION OF THE INNERMOST BODY of a module, from a layer on: what is told of that layer, or else of those behind
pub scan_on : (m : List ℕ) (ls : List Layers) (i : ℕ) (l : Layers) (o : Option ℕ) → slice_get ls i ≡ Some l
    → ((rest : List Layer) → version_beside m (by_name (bodies_in (layer_of l ∷ rest))) ≡ option_or o (version_beside m (by_name (bodies_in rest))))
    → version_beside m (by_name (bodies_in (layers_of (drop i ls)))) ≡ option_or o (version_beside m (by_name (bodies_in (layers_of (drop (i + 1) ls)))))
scan_on m ls i l o e told =
    ap (λ ms. version_beside m (by_name (bodies_in (layers_of ms)))) (from_here ls i l e)
    ∙ told (layers_of (drop (suc i) ls))
    ∙ ap (λ j. option_or o (version_beside m (by_name (bodies_in (layers_of (drop j ls)))))) (one_more i)

none_from : {X : Type 0} (xs : List X) (i : ℕ) → slice_get xs i ≡ None → drop i xs ≡ []
none_from [] zero e = refl
none_from [] (suc i) e = refl
none_from (y ∷ xs) zero e = absurd (cc)
none_from (y ∷ xs) (suc i) e = none_from xs i e

-- past all layers there is none
pub scan_past : (m : List ℕ) (ls : List Layers) (i : ℕ) → slice_get ls i ≡ None
    → version_beside m (by_name (bodies_in (layers_of (drop i ls)))) ≡ version_beside m (by_name (bodies_in (layers_of (drop (i + 1) ls))))
scan_past m ls i e =
    ap (λ ms. version_beside m (by_name (bodies_in (layers_of ms)))) (none_from ls i e ∙ sym (gone ls i e) ∙ ap (λ j. drop j ls) (one_more i))
  where
    gone : {X : Type 0} (xs : List X) (i : ℕ) → slice_get xs i ≡ None → drop (suc i) xs ≡ []
    gone [] zero e = refl
    gone [] (suc i) e = refl
    gone (y ∷ xs) zero e = absurd (cc)
    gone (y ∷ xs) (suc i) e = gone xs i e

-- the innermost Body, and those among the layers
pub bodies_here : (s : Site) (b : Bor Body) → s.here ≡ Some b → bodies_at s ≡ (b.now.unit.now, b.now.version) ∷ bodies_in (layers_of s.layers.now.0)
bodies_here s b e =
    ap (λ h. option_map_or (λ b. modules_of (layers_of s.layers.now.0) (info_of b.now)) h []) e
    ∙ innermost_first (layers_of s.layers.now.0) (info_of b.now)

-- the same of all Bodies
pub scan_here : (m : List ℕ) (s : Site) (b : Bor Body) → s.here ≡ Some b
    → version_beside m (by_name (bodies_at s)) ≡ version_beside m (by_name ((b.now.unit.now, b.now.version) ∷ bodies_in (layers_of s.layers.now.0)))
scan_here m s b e = ap (λ bs. version_beside m (by_name bs)) (bodies_here s b e)
