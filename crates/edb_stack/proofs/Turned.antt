-- A tree that takes the place of a redex comes out as the layers round it.

use Rattle.std.proofs.Common.{◌≡◌, List, [], ◌∷◌, None, refl, ap, subst, ◌∙◌}
use Rattle.edb_lang.specs.Pairs.{Pairs}
use Rattle.edb_variables.specs.PairStacks.{oldest}
use Rattle.edb_moves.specs.Running as run
use Rattle.edb_moves.specs.Running.{Info, Run, node, around, more, value, value_of, all_running}
use Rattle.edb_moves.specs.Going.{Place, turns, closed, if_some}
use Rattle.edb_stack.specs.Parts.{Layer, operands, frame, scope, caught, tried, waiting, body}
use Rattle.edb_stack.specs.Trees.{before, outward, plug}
use Rattle.edb_stack.specs.Places.{place, out}
use Rattle.edb_stack.specs.Marks.{AllOpen, Agree}

-- the hole sees the bindings of the innermost Body
pub place_bindings : (p : Place) (ls : List Layer) (i : Info) → AllOpen ls → (place p ls i).bindings ≡ i.bindings
unfolding place
place_bindings p [] i a = refl
place_bindings p (operands o done rest ∷ ls) i a = place_bindings p ls i a
place_bindings p (frame f ∷ ls) i a = a.0.sees (place p ls i) ∙ place_bindings p ls i a.1
place_bindings p (scope m ∷ ls) i a = refl
place_bindings p (caught m ∷ ls) i a = place_bindings p ls i a
place_bindings p (tried m cs hs ∷ ls) i a = place_bindings p ls i a
place_bindings p (waiting m s ∷ ls) i a = place_bindings p ls i a
place_bindings p (body o ∷ ls) i a = refl

pub agree_itself : (ls : List Layer) (bs : Pairs) → Agree ls bs bs
agree_itself [] bs = tt
agree_itself (operands o done rest ∷ ls) bs = (λ ts. refl, agree_itself ls bs)
agree_itself (frame f ∷ ls) bs = agree_itself ls bs
agree_itself (scope m ∷ ls) bs = refl
agree_itself (caught m ∷ ls) bs = (refl, agree_itself ls bs)
agree_itself (tried m cs hs ∷ ls) bs = (refl, agree_itself ls bs)
agree_itself (waiting m s ∷ ls) bs = (refl, agree_itself ls bs)
agree_itself (body o ∷ ls) bs = tt

-- a Body that isn't done
stays : (q : Place) (i : Info) (bs : Pairs) (t : Run) → value_of t ≡ None → closed q i (turns bs t) ≡ turns q.bindings (run.body (record i { bindings = bs }) t)
stays q i bs t e = ap (λ o. if_some o (λ v. turns q.bindings (value v)) (turns q.bindings (run.body (record i { bindings = bs }) t))) e

-- A TREE PUT INTO THE HOLE under new bindings, of which the layers see the same: the whole expression is the layers round
-- it, with these bindings in the innermost Body
pub turned : (p : Place) (ls : List Layer) (i : Info) (bs : Pairs) (t : Run) → AllOpen ls → Agree ls i.bindings bs → value_of t ≡ None
    → out p ls i (turns bs t) ≡ turns p.bindings (plug ls (record i { bindings = bs }) t)
unfolding out plug
turned p [] i bs t a g e = stays p i bs t e
turned p (operands o done rest ∷ ls) i bs t a g e =
    ap (λ ts. out p ls i (turns bs (node o ts))) (g.0 (more t (all_running rest)))
    ∙ turned p ls i bs (node o (before bs done (more t (all_running rest)))) a g.1 refl
turned p (frame f ∷ ls) i bs t a g e = ap (out p ls i) (a.0.turns (place p ls i) bs t) ∙ turned p ls i bs (around f t) a.1 g refl
turned p (scope m ∷ ls) i bs t a g e =
    let j : Info = outward (scope m) i in
    ap (λ cs. out p ls j (turns cs (around (run.scope bs) t))) (place_bindings p ls j a ∙ g)
    ∙ turned p ls j (oldest m bs) (around (run.scope bs) t) a (subst (λ cs. Agree ls j.bindings cs) g (agree_itself ls j.bindings)) refl
turned p (caught m ∷ ls) i bs t a g e =
    ap (λ cs. out p ls i (turns bs (around (run.caught cs) t))) g.0 ∙ turned p ls i bs (around (run.caught (oldest m bs)) t) a g.1 refl
turned p (tried m cs hs ∷ ls) i bs t a g e =
    ap (λ ds. out p ls i (turns bs (around (run.tried ds cs hs) t))) g.0 ∙ turned p ls i bs (around (run.tried (oldest m bs) cs hs) t) a g.1 refl
turned p (waiting m s ∷ ls) i bs t a g e =
    ap (λ ds. out p ls i (turns bs (around (run.waiting ds s) t))) g.0 ∙ turned p ls i bs (around (run.waiting (oldest m bs) s) t) a g.1 refl
turned p (body o ∷ ls) i bs t a g e =
    ap (out p ls o) (stays (place p ls o) i bs t e)
    ∙ ap (λ cs. out p ls o (turns cs (run.body (record i { bindings = bs }) t))) (place_bindings p ls o a)
    ∙ turned p ls o o.bindings (run.body (record i { bindings = bs }) t) a (agree_itself ls o.bindings) refl
