-- Bindings of which the layers within a Body see the same, and marks that lie among them.

use Rattle.std.specs.Prelude.{◌≡◌, ◌<◌, ◌≤◌, ℕ, List, [], ◌∷◌, length}
use Rattle.edb_lang.specs.Pairs.{Pairs}
use Rattle.edb_variables.specs.PairStacks.{oldest}
use Rattle.edb_moves.specs.Running.{Frame, Run, Runs, around}
use Rattle.edb_moves.specs.Going.{Place, inside, turns, turned_in}
use Rattle.edb_stack.specs.Parts.{Item, held, placed, Layer, operands, frame, scope, caught, tried, waiting, body}
use Rattle.edb_stack.specs.Trees.{before}

-- A frame that has no bindings of its own: within it are those that are outside, and a tree is put back as it is.
pub record IsOpen (f : Frame) : Type 0 where
  pub sees : (p : Place) → (inside f p).bindings ≡ p.bindings
  pub turns : (p : Place) (bs : Pairs) (t : Run) → turned_in f p bs t ≡ turns bs (around f t)

-- Every frame that is a layer by itself is one of these.
abbrev pub AllOpen : List Layer → Type 0
AllOpen [] = Unit {0}
AllOpen (frame f ∷ ls) = IsOpen f × AllOpen ls
AllOpen (operands o done rest ∷ ls) = AllOpen ls
AllOpen (scope m ∷ ls) = AllOpen ls
AllOpen (caught m ∷ ls) = AllOpen ls
AllOpen (tried m cs hs ∷ ls) = AllOpen ls
AllOpen (waiting m s ∷ ls) = AllOpen ls
AllOpen (body o ∷ ls) = AllOpen ls

-- Layers for which these bindings and those say the same: the operands have the same values, and each mark keeps the
-- same pairs. A scope hides what lies outside of it, and so does a Body.
abbrev pub Agree : List Layer → Pairs → Pairs → Type 0
Agree [] a b = Unit {0}
Agree (operands o done rest ∷ ls) a b = ((ts : Runs) → before a done ts ≡ before b done ts) × Agree ls a b
Agree (frame f ∷ ls) a b = Agree ls a b
Agree (scope m ∷ ls) a b = oldest m a ≡ oldest m b
Agree (caught m ∷ ls) a b = (oldest m a ≡ oldest m b) × Agree ls a b
Agree (tried m cs hs ∷ ls) a b = (oldest m a ≡ oldest m b) × Agree ls a b
Agree (waiting m s ∷ ls) a b = (oldest m a ≡ oldest m b) × Agree ls a b
Agree (body o ∷ ls) a b = Unit {0}

-- Operands whose places are among so many pairs.
abbrev pub AllBelow : ℕ → List Item → Type 0
AllBelow n [] = Unit {0}
AllBelow n (held v ∷ xs) = AllBelow n xs
AllBelow n (placed k ∷ xs) = (k < n) × AllBelow n xs

-- Layers whose marks and places are among so many pairs, which are those of the hole. A layer that keeps bindings was there
-- before all that is newer than its mark, and so were the layers round it.
abbrev pub Marked : List Layer → ℕ → Type 0
Marked [] n = Unit {0}
Marked (operands o done rest ∷ ls) n = AllBelow n done × Marked ls n
Marked (frame f ∷ ls) n = Marked ls n
Marked (scope m ∷ ls) n = (m ≤ n) × Marked ls m
Marked (caught m ∷ ls) n = (m ≤ n) × Marked ls m
Marked (tried m cs hs ∷ ls) n = (m ≤ n) × Marked ls m
Marked (waiting m s ∷ ls) n = (m ≤ n) × Marked ls m
Marked (body o ∷ ls) n = Marked ls (length o.bindings)
