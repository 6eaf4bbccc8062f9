-- The Bodies that layers show are those of the expression.

use Rattle.std.proofs.Common.{◌≡◌, List, [], ◌∷◌, ◌++◌, None, refl, ap, sym, ◌∙◌, append_assoc, append-nil}
use Rattle.edb_lang.specs.Pairs.{Pairs}
use Rattle.edb_moves.specs.Running.{Info, Run, Runs, more, value_of}
use Rattle.edb_moves.specs.Going.{Place, if_some}
use Rattle.edb_moves.specs.Innermost.{bodies_on_way, bodies_among}
use Rattle.edb_moves.proofs.GoLaws.{inside_sees}
use Rattle.edb_stack.specs.Parts.{Item, Layer, operands, frame, scope, caught, tried, waiting, body}
use Rattle.edb_stack.specs.Trees.{before, outward, enclosed, plug}
use Rattle.edb_stack.specs.Places.{place}
use Rattle.edb_stack.specs.Bodies.{body_at, bodies_round, modules_of}
use Rattle.edb_stack.proofs.Heart.{is_no_value}

among : (bs : Pairs) (xs : List Item) (t : Run) (ts : Runs) → value_of t ≡ None → bodies_among (before bs xs (more t ts)) ≡ bodies_on_way t
among bs [] t ts e = ap (λ o. if_some o (λ v. bodies_among ts) (bodies_on_way t)) e
among bs (x ∷ xs) t ts e = among bs xs t ts e

in_layer : (l : Layer) (i : Info) (t : Run) → value_of t ≡ None → bodies_on_way (enclosed l i t) ≡ bodies_on_way t ++ body_at l i t
in_layer (operands o done rest) i t e = among i.bindings done t _ e ∙ sym (append-nil (bodies_on_way t))
in_layer (frame f) i t e = sym (append-nil (bodies_on_way t))
in_layer (scope m) i t e = sym (append-nil (bodies_on_way t))
in_layer (caught m) i t e = sym (append-nil (bodies_on_way t))
in_layer (tried m cs hs) i t e = sym (append-nil (bodies_on_way t))
in_layer (waiting m s) i t e = sym (append-nil (bodies_on_way t))
in_layer (body o) i t e = refl

-- THE BODIES OF THE EXPRESSION are those of what stands in the hole, and those round it
pub bodies_told : (ls : List Layer) (i : Info) (t : Run) → value_of t ≡ None → bodies_on_way (plug ls i t) ≡ bodies_on_way t ++ bodies_round ls i t
unfolding plug bodies_round
bodies_told [] i t e = refl
bodies_told (l ∷ ls) i t e =
    bodies_told ls (outward l i) (enclosed l i t) (is_no_value l i t)
    ∙ ap (λ xs. xs ++ bodies_round ls (outward l i) (enclosed l i t)) (in_layer l i t e)
    ∙ append_assoc (bodies_on_way t) (body_at l i t) (bodies_round ls (outward l i) (enclosed l i t))

-- THEIR MODULES AND VERSIONS are those that the hole sees
pub modules_told : (p : Place) (ls : List Layer) (i : Info) → (place p ls i).bodies ≡ modules_of ls i ++ p.bodies
unfolding place modules_of
modules_told p [] i = refl
modules_told p (operands o done rest ∷ ls) i = modules_told p ls i
modules_told p (frame f ∷ ls) i = (inside_sees f (place p ls i)).2 ∙ modules_told p ls i
modules_told p (scope m ∷ ls) i = modules_told p ls (outward (scope m) i)
modules_told p (caught m ∷ ls) i = modules_told p ls i
modules_told p (tried m cs hs ∷ ls) i = modules_told p ls i
modules_told p (waiting m s ∷ ls) i = modules_told p ls i
modules_told p (body o ∷ ls) i = ap (λ bs. (i.home, i.version) ∷ bs) (modules_told p ls o)
