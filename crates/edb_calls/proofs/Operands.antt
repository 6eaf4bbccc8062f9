-- Values as operands.

use Rattle.std.proofs.Common.{◌≡◌, ◌≤◌, ◌∙◌, ℕ, List, [], ◌∷◌, ◌++◌, map, reverse, refl, sym, ap, subst}
use Rattle.std.proofs.lemmas.List.{map-append}
use Rattle.edb_lang.specs.Terms.{Datum}
use Rattle.edb_lang.specs.Pairs.{Pairs}
use Rattle.edb_moves.specs.Running.{none, more, value, all_values}
use Rattle.edb_moves.specs.Running.{Run, node}
use Rattle.edb_moves.specs.Going.{Place, Effect, turns}
use Rattle.edb_lang.specs.declared.term.Captured.{Captured}
use Rattle.edb_variables.specs.PairStacks.{newest_first}
use Rattle.edb_stack.specs.Marks.{AllBelow}
use Rattle.edb_stack.specs.Paths.{outer, wrapped, Fit, Leads, RedexBelow, IsFilled}
use Rattle.edb_stack.specs.declared.doing.Doing.{Doing}
use Rattle.edb_stack.specs.declared.item.Item.{Item}
use Rattle.edb_stack.specs.declared.layer.Layer.{Layer}
use Rattle.edb_stack.specs.declared.redex.Path.{Path}
use Rattle.edb_stack.proofs.Fits.{fit_none}
use Rattle.edb_stack.specs.Trees.{before}
use Rattle.edb_stack.specs.Views.{doing_of, item_of, layers_of}
use Rattle.edb_stack.specs.declared.item.Item.TheVariants.{Value}

abbrev turned : Place → List Captured → List Layer → List Item → Doing → Effect Run
turned p pairs layers items o =
    let bs : Pairs = newest_first pairs ++ p.bindings in
    turns (outer (layers_of (reverse layers)) bs) (wrapped (layers_of (reverse layers)) bs (node (doing_of o) (before bs (map item_of items) none)))

-- operands that are values, in front of none
pub values_before : (bs : Pairs) (vs : List Datum) → before bs (map item_of (map Value vs)) none ≡ all_values vs
values_before bs [] = refl
values_before bs (v ∷ vs) = ap (λ ts. more (value v) ts) (values_before bs vs)

-- none of them is a place
pub values_below : (n : ℕ) (vs : List Datum) → AllBelow n (map item_of (map Value vs))
values_below n [] = tt
values_below n (v ∷ vs) = values_below n vs

pub values_joined : (vs ws : List Datum) → map Value vs ++ map Value ws ≡ map Value (vs ++ ws)
values_joined vs ws = sym (map-append Value vs ws)

-- THE OPERATION that a path with no layers is
pub turned_values : (p : Place) (pairs : List Captured) (layers : List Layer) (items : List Item) (o : Doing) (vs : List Datum) → pairs ≡ [] → layers ≡ [] → items ≡ map Value vs
    → turned p pairs layers items o ≡ turns p.bindings (node (doing_of o) (all_values vs))
turned_values p pairs layers items o vs e f g =
    ap (λ ps. turned p ps layers items o) e
    ∙ ap (λ ls. turned p [] ls items o) f
    ∙ ap (λ is. turned p [] [] is o) g
    ∙ ap (λ ts. turns p.bindings (node (doing_of o) ts)) (values_before p.bindings vs)

pub leads_alone : (n m : ℕ) (w : Path) → n ≤ m → w.layers.items ≡ [] → RedexBelow m w.redex → IsFilled [] w.redex → Leads n m w
leads_alone n m w h e b i = record {
  fit = subst (λ ls. Fit n m (layers_of (reverse ls))) (sym e) (fit_none n m h);
  below = b;
  filled = subst (λ ls. IsFilled (layers_of (reverse ls)) w.redex) (sym e) i;
}
