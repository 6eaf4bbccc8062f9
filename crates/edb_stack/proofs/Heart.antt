-- The walk to the redex goes through the layers, and what it answers comes out through them.

use Rattle.std.proofs.Common.{◌≡◌, List, [], ◌∷◌, None, refl, ap, sym, ◌∙◌}
use Rattle.edb_lang.specs.Terms.{Datum}
use Rattle.edb_lang.specs.Pairs.{Pairs}
use Rattle.edb_moves.specs.Running as run
use Rattle.edb_moves.specs.Running.{Info, Doing, Run, Runs, node, more, value, value_of, all_running}
use Rattle.edb_moves.specs.Going.{Place, operand, Redex, tells, Handler, within, go}
use Rattle.edb_moves.proofs.GoLaws as laws
use Rattle.edb_moves.proofs.GoLaws.{go_in_node, go_in_frame}
use Rattle.edb_variables.specs.PairStacks.{oldest}
use Rattle.edb_stack.specs.Parts.{Item, Layer, operands, frame, scope, caught, tried, waiting, body}
use Rattle.edb_stack.specs.Trees.{item_value, before, outward, enclosed, plug}
use Rattle.edb_stack.specs.Places.{within_layer, place, through, out}

-- the values of operands
abbrev values : Pairs → List Item → List Datum
values bs [] = []
values bs (x ∷ xs) = item_value bs x ∷ values bs xs

before_values : (bs : Pairs) (xs : List Item) (ts : Runs) → before bs xs ts ≡ laws.operands (values bs xs) ts
before_values bs [] ts = refl
before_values bs (x ∷ xs) ts = ap (more (value (item_value bs x))) (before_values bs xs ts)

in_operands : (h : Handler) (p : Place) (o : Doing) (bs : Pairs) (xs : List Item) (t : Run) (ts : Runs) → value_of t ≡ None
    → go h p (node o (before bs xs (more t ts))) ≡ within (λ u. node o (before bs xs (more u ts))) (go h (operand p) t)
in_operands h p o bs xs t ts e =
    ap (λ rs. go h p (node o rs)) (before_values bs xs (more t ts)) ∙ go_in_node h p o (values bs xs) t ts e
    ∙ ap (λ (f : Run → Run). within f (go h (operand p) t)) (λ k u. node o (sym (before_values bs xs (more u ts)) k))

-- one layer
in_layer : (h : Handler) (p : Place) (l : Layer) (i : Info) (t : Run) → value_of t ≡ None
    → go h p (enclosed l i t) ≡ through l i p (go h (within_layer l i p) t)
unfolding go
in_layer h p (operands o done rest) i t e = in_operands h p o i.bindings done t (all_running rest) e
in_layer h p (frame f) i t e = go_in_frame h p f t e
in_layer h p (scope m) i t e = go_in_frame h p (run.scope i.bindings) t e
in_layer h p (caught m) i t e = go_in_frame h p (run.caught (oldest m i.bindings)) t e
in_layer h p (tried m cs hs) i t e = go_in_frame h p (run.tried (oldest m i.bindings) cs hs) t e
in_layer h p (waiting m s) i t e = go_in_frame h p (run.waiting (oldest m i.bindings) s) t e
in_layer h p (body o) i t e = refl

pub is_no_value : (l : Layer) (i : Info) (t : Run) → value_of (enclosed l i t) ≡ None
is_no_value (operands o done rest) i t = refl
is_no_value (frame f) i t = refl
is_no_value (scope m) i t = refl
is_no_value (caught m) i t = refl
is_no_value (tried m cs hs) i t = refl
is_no_value (waiting m s) i t = refl
is_no_value (body o) i t = refl

-- THE WALK goes to the hole, and what it answers there comes out through all layers; for any handler
pub heart : (h : Handler) (p : Place) (ls : List Layer) (i : Info) (t : Run) → value_of t ≡ None
    → go h p (plug ls i t) ≡ out p ls i (go h (place p ls i) t)
unfolding go plug place out
heart h p [] i t e = refl
heart h p (l ∷ ls) i t e =
    heart h p ls (outward l i) (enclosed l i t) (is_no_value l i t)
    ∙ ap (out p ls (outward l i)) (in_layer h (place p ls (outward l i)) l i t e)

-- WHAT ONLY TELLS comes out as it is
pub out_tells : (p : Place) (ls : List Layer) (i : Info) (q : Place) (r : Redex) → out p ls i (tells q r) ≡ tells q r
unfolding out
out_tells p [] i q r = refl
out_tells p (operands o done rest ∷ ls) i q r = out_tells p ls i q r
out_tells p (frame f ∷ ls) i q r = out_tells p ls i q r
out_tells p (scope m ∷ ls) i q r = out_tells p ls (outward (scope m) i) q r
out_tells p (caught m ∷ ls) i q r = out_tells p ls i q r
out_tells p (tried m cs hs ∷ ls) i q r = out_tells p ls i q r
out_tells p (waiting m s ∷ ls) i q r = out_tells p ls i q r
out_tells p (body o ∷ ls) i q r = out_tells p ls o q r
