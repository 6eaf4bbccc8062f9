-- A raise lands where the walk takes it.

use Rattle.std.proofs.Common.{◌≡◌, List, [], ◌∷◌, Option, None, Some, refl, ap, ◌∙◌}
use Rattle.edb_lang.specs.declared.small.Class.{Class}
use Rattle.edb_lang.specs.Terms.{Datum}
use Rattle.edb_lang.specs.Pairs.{Pairs}
use Rattle.edb_syntax.specs.Syntax.{Seq}
use Rattle.edb_moves.specs.Running.{Info, leaf, unbegun}
use Rattle.edb_moves.specs.Going.{Place, raises, if_some, taken}
use Rattle.edb_moves.specs.Clauses.{handler}
use Rattle.edb_moves.proofs.GoLaws.{inside_sees}
use Rattle.edb_variables.specs.PairStacks.{oldest}
use Rattle.edb_stack.specs.Parts.{Layer, operands, frame, scope, caught, tried, waiting, body}
use Rattle.edb_stack.specs.Trees.{outward}
use Rattle.edb_stack.specs.Places.{place, out}
use Rattle.edb_stack.specs.Landings.{Landing, nowhere, lands, deeper, landing, after_landing, AllPass}

-- the process is the same all the way
process : (p : Place) (ls : List Layer) (i : Info) → (place p ls i).me ≡ p.me
unfolding place
process p [] i = refl
process p (operands o done rest ∷ ls) i = process p ls i
process p (frame f ∷ ls) i = (inside_sees f (place p ls i)).0 ∙ process p ls i
process p (scope m ∷ ls) i = process p ls (outward (scope m) i)
process p (caught m ∷ ls) i = process p ls i
process p (tried m cs hs ∷ ls) i = process p ls i
process p (waiting m s ∷ ls) i = process p ls i
process p (body o ∷ ls) i = process p ls o

further : (p : Place) (l : Layer) (ls : List Layer) (c : Class) (v : Datum) (x : Landing) → after_landing p ls c v x ≡ after_landing p (l ∷ ls) c v (deeper x)
further p l ls c v nowhere = refl
further p l ls c v (lands d i bs t) = refl

-- a `try`, by whether a clause of it is chosen
by_choice : (p : Place) (l : Layer) (ls : List Layer) (i : Info) (c : Class) (v : Datum) (x : Landing) (k : Option (Pairs × Seq)) → out p ls i (raises c v) ≡ after_landing p (l ∷ ls) c v x
    → out p ls i (if_some k taken (raises c v)) ≡ after_landing p (l ∷ ls) c v (if_some k (λ b. lands 0 i b.0 (leaf (unbegun b.1))) x)
by_choice p l ls i c v x (Some b) e = refl
by_choice p l ls i c v x None e = e

-- A RAISE LANDS where `landing` says, with that tree and those bindings; the layers within are gone. Where it lands
-- nowhere it comes out of the whole expression.
pub raise_lands : (p : Place) (ls : List Layer) (i : Info) (c : Class) (v : Datum) → AllPass ls → out p ls i (raises c v) ≡ after_landing p ls c v (landing p.me ls i c v)
unfolding out place landing
raise_lands p [] i c v a = refl
raise_lands p (operands o done rest ∷ ls) i c v a = raise_lands p ls i c v a ∙ further p (operands o done rest) ls c v (landing p.me ls i c v)
raise_lands p (frame f ∷ ls) i c v a =
    ap (out p ls i) (a.0 (place p ls i) c v) ∙ raise_lands p ls i c v a.1 ∙ further p (frame f) ls c v (landing p.me ls i c v)
raise_lands p (scope m ∷ ls) i c v a =
    let j : Info = outward (scope m) i in
    raise_lands p ls j c v a ∙ further p (scope m) ls c v (landing p.me ls j c v)
raise_lands p (caught m ∷ ls) i c v a = refl
raise_lands p (tried m cs hs ∷ ls) i c v a =
    ap (λ me. out p ls i (if_some (handler me (oldest m i.bindings) hs c v) taken (raises c v))) (process p ls i)
    ∙ by_choice p (tried m cs hs) ls i c v (deeper (landing p.me ls i c v)) (handler p.me (oldest m i.bindings) hs c v)
    (raise_lands p ls i c v a ∙ further p (tried m cs hs) ls c v (landing p.me ls i c v))
raise_lands p (waiting m s ∷ ls) i c v a = refl
raise_lands p (body o ∷ ls) i c v a = raise_lands p ls o c v a ∙ further p (body o) ls c v (landing p.me ls o c v)
