-- Layers that are put round a redex, within the hole of others.

use Rattle.std.specs.Prelude.{◌≡◌, ℕ, Bool, true, false, List, [], ◌∷◌, ◌++◌, length, reverse, map}
use Rattle.edb_lang.specs.Pairs.{Pairs}
use Rattle.edb_variables.specs.PairStacks.{oldest}
use Rattle.edb_moves.specs.Running as run
use Rattle.edb_moves.specs.Running.{Frame, Run}
use Rattle.edb_stack.specs.Parts.{Layer, operands, frame, scope, caught, tried, waiting, body}
use Rattle.edb_stack.specs.Trees.{round}
use Rattle.edb_stack.specs.Marks.{AllBelow, Agree, Marked}
use Rattle.edb_stack.specs.Views.{item_of, layers_of}
use Rattle.edb_stack.specs.Redexes.{redex_tree}
use Rattle.edb_stack.specs.declared.redex.Redex.{Redex}
use Rattle.edb_stack.specs.declared.redex.Redex.TheVariants.{Leaf, Apply, Value}
use Rattle.edb_stack.specs.declared.redex.Path.{Path}

-- the bindings outside of layers: a scope keeps the pairs that it added to itself
abbrev pub outer : List Layer → Pairs → Pairs
outer [] bs = bs
outer (scope m ∷ ls) bs = outer ls (oldest m bs)
outer (operands o done rest ∷ ls) bs = outer ls bs
outer (frame f ∷ ls) bs = outer ls bs
outer (caught m ∷ ls) bs = outer ls bs
outer (tried m cs hs ∷ ls) bs = outer ls bs
outer (waiting m s ∷ ls) bs = outer ls bs
outer (body o ∷ ls) bs = outer ls bs

-- layers of one Body, the innermost first, round a tree, under the bindings of the hole
abbrev pub wrapped : List Layer → Pairs → Run → Run
wrapped [] bs t = t
wrapped (l ∷ ls) bs t = wrapped ls (outer (l ∷ []) bs) (round bs l t)

-- a layer that waits for one value, which fills it
abbrev pub waits : Layer → Bool
waits (operands o done rest) = false
waits (body o) = false
waits _ = true

-- a frame with its bindings, as a layer that waits stands for it
abbrev pub frame_of : Pairs → Layer → Frame
frame_of bs (frame f) = f
frame_of bs (scope m) = run.scope bs
frame_of bs (caught m) = run.caught (oldest m bs)
frame_of bs (tried m cs hs) = run.tried (oldest m bs) cs hs
frame_of bs (waiting m s) = run.waiting (oldest m bs) s
frame_of bs _ = run.scope bs

-- the layers of a path, the innermost first
abbrev pub path_layers : Path → List Layer
path_layers p = layers_of (reverse p.layers.items)

-- its layers round its redex
abbrev pub path_tree : Pairs → Path → Run
path_tree bs p = wrapped (path_layers p) bs (redex_tree bs p.redex)

-- no Body is among the layers
abbrev pub OneBody : List Layer → Type 0
OneBody [] = Unit {0}
OneBody (body o ∷ ls) = ⊥
OneBody (operands o done rest ∷ ls) = OneBody ls
OneBody (frame f ∷ ls) = OneBody ls
OneBody (scope m ∷ ls) = OneBody ls
OneBody (caught m ∷ ls) = OneBody ls
OneBody (tried m cs hs ∷ ls) = OneBody ls
OneBody (waiting m s ∷ ls) = OneBody ls

-- a redex whose places are among so many pairs
abbrev pub RedexBelow : ℕ → Redex → Type 0
RedexBelow n (Leaf l) = Unit {0}
RedexBelow n (Apply o xs) = AllBelow n (map item_of xs.items)
RedexBelow n (Value x) = AllBelow n (item_of x ∷ [])

-- a value stands where the innermost layer waits for one
abbrev pub IsFilled : List Layer → Redex → Type 0
IsFilled (l ∷ ls) (Value x) = waits l ≡ true
IsFilled [] (Value x) = ⊥
IsFilled ls (Leaf l) = Unit {0}
IsFilled ls (Apply o xs) = Unit {0}

-- Layers of one Body that may be put into a hole with k pairs, where there are then n: what stands round the hole sees the
-- same of the bindings outside of them, and all marks are among the pairs.
pub record Fit (k n : ℕ) (ls : List Layer) : Type 0 where
  pub within : OneBody ls
  pub keeps : (bs : Pairs) (fs : List Layer) → length bs ≡ n → Marked fs k → Agree fs (oldest k bs) (outer ls bs)
  pub marked : (fs : List Layer) → Marked fs k → Marked (ls ++ fs) n

-- a path that may be put there
pub record Leads (k n : ℕ) (p : Path) : Type 0 where
  pub fit : Fit k n (path_layers p)
  pub below : RedexBelow n p.redex
  pub filled : IsFilled (path_layers p) p.redex
