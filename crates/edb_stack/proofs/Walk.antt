-- The walk to the redex of layers.

use Rattle.std.proofs.Common.{◌≡◌, true, List, [], ◌∷◌, map, refl, ap, ◌∙◌}
use Rattle.edb_lang.specs.Terms.{Datum}
use Rattle.edb_lang.specs.Pairs.{Pairs}
use Rattle.edb_moves.specs.Running as run
use Rattle.edb_moves.specs.Running.{Info, Doing, Run, none, node, around, value, all_values}
use Rattle.edb_moves.specs.Going.{Place, at, apply, filled, Handler, go}
use Rattle.edb_moves.proofs.GoLaws.{go_at_values}
use Rattle.edb_stack.specs.Parts.{Layer, operands, frame, scope, caught, tried, waiting, body}
use Rattle.edb_stack.specs.Trees.{before, outward, enclosed, plug}
use Rattle.edb_stack.specs.Places.{place, out}
use Rattle.edb_stack.specs.Views.{item_of, doing_of, leaf_of}
use Rattle.edb_stack.specs.Redexes.{value_in, values_in, redex_tree}
use Rattle.edb_stack.specs.Paths.{waits, frame_of, IsFilled}
use Rattle.edb_stack.specs.Holes.{hole_layers, hole_info, at_hole}
use Rattle.edb_stack.proofs.Heart.{heart, is_no_value}
use Rattle.edb_stack.specs.declared.item.Item.{Item}
use Rattle.edb_stack.specs.declared.redex.Redex.{Redex}
use Rattle.edb_stack.specs.declared.redex.Redex.TheVariants.{Leaf, Apply, Value}

before_none : (bs : Pairs) (xs : List Item) → before bs (map item_of xs) none ≡ all_values (values_in bs xs)
before_none bs [] = refl
before_none bs (x ∷ xs) = ap (λ ts. run.more (value (value_in bs x)) ts) (before_none bs xs)

at_values : (h : Handler) (p : Place) (o : Doing) (bs : Pairs) (xs : List Item) → go h p (node o (before bs (map item_of xs) none)) ≡ h p (apply o (values_in bs xs))
at_values h p o bs xs = ap (λ ts. go h p (node o ts)) (before_none bs xs) ∙ go_at_values h p o (values_in bs xs)

at_leaf : (h : Handler) (p : Place) (l : run.Leaf) → go h p (run.leaf l) ≡ h p (at l)
unfolding go
at_leaf h p l = refl

at_filled : (h : Handler) (p : Place) (l : Layer) (i : Info) (v : Datum) → waits l ≡ true → go h p (enclosed l i (value v)) ≡ h p (filled (frame_of i.bindings l) v)
unfolding go
at_filled h p (frame f) i v e = refl
at_filled h p (scope m) i v e = refl
at_filled h p (caught m) i v e = refl
at_filled h p (tried m cs hs) i v e = refl
at_filled h p (waiting m s) i v e = refl
at_filled h p (operands o done rest) i v e = absurd (cc)
at_filled h p (body o) i v e = absurd (cc)

-- THE WALK goes to the redex, and what the handler answers there comes out through the layers round the hole
pub walk : (h : Handler) (p : Place) (ls : List Layer) (i : Info) (r : Redex) → IsFilled ls r
    → go h p (plug ls i (redex_tree i.bindings r)) ≡ out p (hole_layers ls r) (hole_info ls i r) (h (place p (hole_layers ls r) (hole_info ls i r)) (at_hole ls i r))
unfolding plug
walk h p ls i (Leaf l) f = heart h p ls i (redex_tree i.bindings (Leaf l)) refl ∙ ap (out p ls i) (at_leaf h (place p ls i) (leaf_of l))
walk h p ls i (Apply o xs) f =
    heart h p ls i (redex_tree i.bindings (Apply o xs)) refl ∙ ap (out p ls i) (at_values h (place p ls i) (doing_of o) i.bindings xs.items)
walk h p (l ∷ ls) i (Value x) f =
    let v : Datum = value_in i.bindings x in
    heart h p ls (outward l i) (enclosed l i (value v)) (is_no_value l i (value v))
    ∙ ap (out p ls (outward l i)) (at_filled h (place p ls (outward l i)) l i v f)
walk h p [] i (Value x) f = absurd f
