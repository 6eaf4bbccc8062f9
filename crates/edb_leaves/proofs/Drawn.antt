-- Generators at work.

use Rattle.std.proofs.Common.{◌≡◌, ◌++◌, List, [], Some, Box, Global, codes, refl, ap, sym, ◌∙◌}
use Rattle.edb_lang.specs.declared.term.Captured.{Captured}
use Rattle.edb_lang.specs.declared.term.Cell.{Cell}
use Rattle.edb_lang.specs.declared.term.FunValue.{FunValue}
use Rattle.edb_lang.specs.declared.term.FunValue.TheVariants.{Made, Named}
use Rattle.edb_lang.specs.declared.term.Node.{Node}
use Rattle.edb_lang.specs.declared.term.Node.TheVariants.{Int, Atom, Ref, Fun, Pid, Tuple, Nil, List as Cons}
use Rattle.edb_lang.specs.Terms.{Datum, cons}
use Rattle.edb_lang.specs.TermViews.{datum_of, fun_of}
use Rattle.edb_match.specs.Newest as match
use Rattle.edb_moves.specs.Comprehensions.{drawn, listed}
use Rattle.edb_moves.specs.Going.{Place, turns, if_some}
use Rattle.edb_moves.specs.Matching.{matched}
use Rattle.edb_moves.specs.Raises.{fails_with}
use Rattle.edb_moves.specs.Running.{Drawing, around, gather, scope, leaf, drawing}
use Rattle.edb_variables.specs.PairStacks.{newest_first}
use Rattle.edb_leaves.proofs.ClauseLaws.{in_front_of_none}

-- an element that the pattern matches
pub drawn_element : (p : Place) (d e : Drawing) (h t u : Datum) (new : List Captured) → e ≡ d → u ≡ t → Some (match.newest_first new []) ≡ matched d.pattern h []
    → turns p.bindings (around (gather e u) (around (scope (newest_first new ++ p.bindings)) (listed e.element e.rest))) ≡ drawn p d (cons h t)
drawn_element p d e h t u new same left m =
    let found : Some (newest_first new) ≡ matched d.pattern h [] = ap Some (sym (in_front_of_none new (newest_first new) refl)) ∙ m in
    ap (λ (x : Drawing). turns p.bindings (around (gather x u) (around (scope (newest_first new ++ p.bindings)) (listed x.element x.rest)))) same
    ∙ ap (λ x. turns p.bindings (around (gather d x) (around (scope (newest_first new ++ p.bindings)) (listed d.element d.rest)))) left
    ∙ ap (λ o. if_some o (λ ns. turns p.bindings (around (gather d t) (around (scope (ns ++ p.bindings)) (listed d.element d.rest)))) (turns p.bindings (leaf (drawing d t)))) found

-- WHAT IS LEFT is no list
fun_not_drawn : (p : Place) (d : Drawing) (f : FunValue) → fails_with (codes "bad_generator") (fun_of f) ≡ drawn p d (fun_of f)
fun_not_drawn p d (Made m v i a cs) = refl
fun_not_drawn p d (Named m f a) = refl

pub not_drawn : (p : Place) (d : Drawing) (n : Node) → (n ≡ Nil → ⊥) → ((c : Box Cell Global) → n ≡ Cons c → ⊥) → fails_with (codes "bad_generator") (datum_of n) ≡ drawn p d (datum_of n)
not_drawn p d (Int i) none some = refl
not_drawn p d (Atom a) none some = refl
not_drawn p d (Ref r) none some = refl
not_drawn p d (Fun f) none some = fun_not_drawn p d f.value
not_drawn p d (Pid k) none some = refl
not_drawn p d (Tuple ts) none some = refl
not_drawn p d Nil none some = absurd (none refl)
not_drawn p d (Cons c) none some = absurd (some c refl)
