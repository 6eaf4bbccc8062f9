-- Layers that are put into the hole of others.

use Rattle.std.proofs.Common.{◌≡◌, List, [], ◌∷◌, ◌++◌, None, refl}
use Rattle.edb_lang.specs.Pairs.{Pairs}
use Rattle.edb_variables.specs.PairStacks.{oldest}
use Rattle.edb_moves.specs.Running.{Info, Run, value_of}
use Rattle.edb_stack.specs.Parts.{Layer, operands, frame, scope, caught, tried, waiting, body}
use Rattle.edb_stack.specs.Trees.{round, plug}
use Rattle.edb_stack.specs.Paths.{outer, wrapped, OneBody, IsFilled}
use Rattle.edb_stack.specs.Redexes.{redex_tree}
use Rattle.edb_stack.specs.declared.redex.Redex.{Redex}
use Rattle.edb_stack.specs.declared.redex.Redex.TheVariants.{Leaf, Apply, Value}

-- LAYERS OF ONE BODY, in the hole of others, stand for themselves round the tree, there
pub plug_wrapped : (ls fs : List Layer) (i : Info) (t : Run) → OneBody ls → plug (ls ++ fs) i t ≡ plug fs (record i { bindings = outer ls i.bindings }) (wrapped ls i.bindings t)
unfolding plug
plug_wrapped [] fs i t b = refl
plug_wrapped (operands o done rest ∷ ls) fs i t b = plug_wrapped ls fs i (round i.bindings (operands o done rest) t) b
plug_wrapped (frame f ∷ ls) fs i t b = plug_wrapped ls fs i (round i.bindings (frame f) t) b
plug_wrapped (scope m ∷ ls) fs i t b = plug_wrapped ls fs (record i { bindings = oldest m i.bindings }) (round i.bindings (scope m) t) b
plug_wrapped (caught m ∷ ls) fs i t b = plug_wrapped ls fs i (round i.bindings (caught m) t) b
plug_wrapped (tried m cs hs ∷ ls) fs i t b = plug_wrapped ls fs i (round i.bindings (tried m cs hs) t) b
plug_wrapped (waiting m s ∷ ls) fs i t b = plug_wrapped ls fs i (round i.bindings (waiting m s) t) b
plug_wrapped (body o ∷ ls) fs i t b = absurd b

-- what layers stand round is no value
live : (ls : List Layer) (bs : Pairs) (t : Run) → OneBody ls → value_of t ≡ None → value_of (wrapped ls bs t) ≡ None
live [] bs t b e = e
live (operands o done rest ∷ ls) bs t b e = live ls bs (round bs (operands o done rest) t) b refl
live (frame f ∷ ls) bs t b e = live ls bs (round bs (frame f) t) b refl
live (scope m ∷ ls) bs t b e = live ls (oldest m bs) (round bs (scope m) t) b refl
live (caught m ∷ ls) bs t b e = live ls bs (round bs (caught m) t) b refl
live (tried m cs hs ∷ ls) bs t b e = live ls bs (round bs (tried m cs hs) t) b refl
live (waiting m s ∷ ls) bs t b e = live ls bs (round bs (waiting m s) t) b refl
live (body o ∷ ls) bs t b e = absurd b

live_first : (l : Layer) (ls : List Layer) (bs : Pairs) (t : Run) → OneBody (l ∷ ls) → value_of (wrapped (l ∷ ls) bs t) ≡ None
live_first (operands o done rest) ls bs t b = live ls bs (round bs (operands o done rest) t) b refl
live_first (frame f) ls bs t b = live ls bs (round bs (frame f) t) b refl
live_first (scope m) ls bs t b = live ls (oldest m bs) (round bs (scope m) t) b refl
live_first (caught m) ls bs t b = live ls bs (round bs (caught m) t) b refl
live_first (tried m cs hs) ls bs t b = live ls bs (round bs (tried m cs hs) t) b refl
live_first (waiting m s) ls bs t b = live ls bs (round bs (waiting m s) t) b refl
live_first (body o) ls bs t b = absurd b

pub path_lives : (ls : List Layer) (bs : Pairs) (r : Redex) → OneBody ls → IsFilled ls r → value_of (wrapped ls bs (redex_tree bs r)) ≡ None
path_lives ls bs (Leaf l) b f = live ls bs (redex_tree bs (Leaf l)) b refl
path_lives ls bs (Apply o xs) b f = live ls bs (redex_tree bs (Apply o xs)) b refl
path_lives (l ∷ ls) bs (Value x) b f = live_first l ls bs (redex_tree bs (Value x)) b
path_lives [] bs (Value x) b f = absurd f

-- a value that fills the innermost of some layers fills that of more
pub filled_more : (ls fs : List Layer) (r : Redex) → IsFilled ls r → IsFilled (ls ++ fs) r
filled_more ls fs (Leaf l) f = tt
filled_more ls fs (Apply o xs) f = tt
filled_more (l ∷ ls) fs (Value x) f = f
filled_more [] fs (Value x) f = absurd f
