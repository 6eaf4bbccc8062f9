-- A Body that takes the place of the innermost one.

use Rattle.std.proofs.Common.{◌≡◌, ℕ, List, [], ◌∷◌, length, refl, ap, ◌∙◌}
use Rattle.edb_moves.specs.Running as run
use Rattle.edb_moves.specs.Running.{Info, Run}
use Rattle.edb_moves.specs.Going.{Place, turns, leaves}
use Rattle.edb_stack.specs.Parts as parts
use Rattle.edb_stack.specs.Parts.{operands, frame, scope, caught, tried, waiting, body}
use Rattle.edb_stack.specs.Trees.{outward, plug}
use Rattle.edb_stack.specs.Places.{out}
use Rattle.edb_stack.specs.Marks.{AllOpen, Marked}
use Rattle.edb_stack.specs.Bodies.{modules_of}
use Rattle.edb_stack.proofs.Turned.{place_bindings}
use Rattle.edb_running.specs.Outermost.{beyond}
use Rattle.edb_running.proofs.RiseLaws.{put}

-- WHAT LEAVES the innermost Body stands where that was
pub left : (p : Place) (ls : List parts.Layer) (i j : Info) (t : Run) → AllOpen ls → out p ls i (leaves (run.body j t)) ≡ turns p.bindings (plug (beyond ls) j t)
unfolding out plug
left p [] i j t a = refl
left p (operands o done rest ∷ ls) i j t a = left p ls i j t a
left p (frame f ∷ ls) i j t a = left p ls i j t a.1
left p (scope m ∷ ls) i j t a = left p ls (outward (scope m) i) j t a
left p (caught m ∷ ls) i j t a = left p ls i j t a
left p (tried m cs hs ∷ ls) i j t a = left p ls i j t a
left p (waiting m s ∷ ls) i j t a = left p ls i j t a
left p (body o ∷ ls) i j t a = ap (λ bs. out p ls o (turns bs (run.body j t))) (place_bindings p ls o a) ∙ put p ls o (run.body j t) a refl

pub marked_beyond : (ls : List parts.Layer) (n k : ℕ) → Marked ls n → Marked (beyond ls) k
marked_beyond [] n k m = tt
marked_beyond (operands o done rest ∷ ls) n k m = marked_beyond ls n k m.1
marked_beyond (frame f ∷ ls) n k m = marked_beyond ls n k m
marked_beyond (scope l ∷ ls) n k m = marked_beyond ls l k m.1
marked_beyond (caught l ∷ ls) n k m = marked_beyond ls l k m.1
marked_beyond (tried l cs hs ∷ ls) n k m = marked_beyond ls l k m.1
marked_beyond (waiting l s ∷ ls) n k m = marked_beyond ls l k m.1
marked_beyond (body o ∷ ls) n k m = m

pub depth_beyond : (ls : List parts.Layer) (i j : Info) → length (modules_of ls i) ≡ length (modules_of (beyond ls) j)
unfolding modules_of
depth_beyond [] i j = refl
depth_beyond (operands o done rest ∷ ls) i j = depth_beyond ls i j
depth_beyond (frame f ∷ ls) i j = depth_beyond ls i j
depth_beyond (scope m ∷ ls) i j = depth_beyond ls (outward (scope m) i) j
depth_beyond (caught m ∷ ls) i j = depth_beyond ls i j
depth_beyond (tried m cs hs ∷ ls) i j = depth_beyond ls i j
depth_beyond (waiting m s ∷ ls) i j = depth_beyond ls i j
depth_beyond (body o ∷ ls) i j = refl
