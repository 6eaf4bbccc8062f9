-- Where a raise lands: how many layers lie within what catches it, the innermost Body there, and the bindings and the tree
-- with which it goes on.

use Rattle.std.specs.Prelude.{◌≡◌, ℕ, suc, List, [], ◌∷◌, drop}
use Rattle.edb_lang.specs.declared.small.Class.{Class}
use Rattle.edb_lang.specs.Terms.{Datum}
use Rattle.edb_lang.specs.Pairs.{Pairs}
use Rattle.edb_variables.specs.PairStacks.{oldest}
use Rattle.edb_moves.specs.Running.{Info, Run, value, leaf, unbegun, failed}
use Rattle.edb_moves.specs.Going.{Place, Effect, turns, raises, if_some, caught_value, raised_in}
use Rattle.edb_moves.specs.Clauses.{handler}
use Rattle.edb_stack.specs.Parts.{Layer, operands, frame, scope, caught, tried, waiting, body}
use Rattle.edb_stack.specs.Trees.{outward}
use Rattle.edb_stack.specs.Places.{out}

pub data Landing : Type 0 where
  nowhere : Landing
  lands : ℕ → Info → Pairs → Run → Landing

-- one layer further out
abbrev pub deeper : Landing → Landing
deeper nowhere = nowhere
deeper (lands d i bs t) = lands (suc d) i bs t

-- An opened `catch`, an `after` that waits, and the first clause of an opened `try` that is chosen, catch it, the
-- innermost of them. All other layers let it pass. `me`: the process, which a guard may ask for.
unfoldable pub landing : ℕ → List Layer → Info → Class → Datum → Landing
landing me [] i c v = nowhere
landing me (operands o done rest ∷ ls) i c v = deeper (landing me ls i c v)
landing me (frame f ∷ ls) i c v = deeper (landing me ls i c v)
landing me (scope m ∷ ls) i c v = deeper (landing me ls (outward (scope m) i) c v)
landing me (caught m ∷ ls) i c v = lands 0 i (oldest m i.bindings) (value (caught_value c v))
landing me (tried m cs hs ∷ ls) i c v =
    if_some (handler me (oldest m i.bindings) hs c v) (λ k. lands 0 i k.0 (leaf (unbegun k.1))) (deeper (landing me ls i c v))
landing me (waiting m s ∷ ls) i c v = lands 0 i (oldest m i.bindings) (leaf (failed c v s))
landing me (body o ∷ ls) i c v = deeper (landing me ls o c v)

-- what comes out of a raise that lands so: the layers within are gone, and the rest takes the tree
abbrev pub after_landing : Place → List Layer → Class → Datum → Landing → Effect Run
after_landing p ls c v nowhere = raises c v
after_landing p ls c v (lands d i bs t) = out p (drop (suc d) ls) i (turns bs t)

-- Every frame that is a layer by itself lets a raise pass.
abbrev pub AllPass : List Layer → Type 0
AllPass [] = Unit {0}
AllPass (frame f ∷ ls) = ((p : Place) (c : Class) (v : Datum) → raised_in f p c v ≡ raises c v) × AllPass ls
AllPass (operands o done rest ∷ ls) = AllPass ls
AllPass (scope m ∷ ls) = AllPass ls
AllPass (caught m ∷ ls) = AllPass ls
AllPass (tried m cs hs ∷ ls) = AllPass ls
AllPass (waiting m s ∷ ls) = AllPass ls
AllPass (body o ∷ ls) = AllPass ls
