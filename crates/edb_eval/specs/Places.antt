-- Frames as maps: what they make of the place outside of every Body, and of an effect at their hole.

use Rattle.std.specs.Prelude.{Bool, true, false, List, [], ◌∷◌}
use Rattle.edb_lang.specs.Syntax.{exps_of}
use Rattle.edb_model.specs.Running.{Run, Info}
use Rattle.edb_model.specs.Move.{Place, outside, operand, before, within_body, Effect, within, closed}
use Rattle.edb_eval.specs.declared.frames.Holder.{Holder}
use Rattle.edb_eval.specs.declared.frames.Holder.TheVariants as holder
use Rattle.edb_eval.specs.declared.frames.Frame.{Frame}
use Rattle.edb_eval.specs.declared.frames.Frame.TheVariants as frame
use Rattle.edb_eval.specs.declared.running.Running.{Running}
use Rattle.edb_eval.specs.Tree.{info_of, held}

-- the place in a node's hole
abbrev pub inside : Holder → Place → Place
inside (holder.Operands o done pending) p = operand p
inside (holder.Match q) p = operand p
inside (holder.Sequence l es) p = before (exps_of es.now) p

-- the place within frames and the Body i
abbrev pub place : List Frame → Info → Place
place [] i = within_body i outside
place (frame.Holder h ∷ fs) i = inside h (place fs i)
place (frame.Body outer ∷ fs) i = within_body i (place fs (info_of outer))

-- what an effect at the hole is outside of the frames
abbrev pub out : List Frame → Info → Effect Run → Effect Run
out [] i e = closed outside i e
out (frame.Holder h ∷ fs) i e = out fs i (within (held h) e)
out (frame.Body outer ∷ fs) i e = out fs (info_of outer) (closed (place fs (info_of outer)) i e)

abbrev pub place_of : Running → Place
place_of r = place r.frames (info_of r.here)

abbrev pub out_of : Running → Effect Run → Effect Run
out_of r e = out r.frames (info_of r.here) e

-- whether a Body is the innermost frame, or there is none
abbrev pub at_body : List Frame → Bool
at_body [] = true
at_body (frame.Holder h ∷ fs) = false
at_body (frame.Body outer ∷ fs) = true

abbrev pub if_last : {A : Type 0} → List A → Bool → Bool
if_last [] b = b
if_last (e ∷ es) b = false

-- whether the hole is all that is left of the innermost Body
abbrev pub is_tail : List Frame → Bool
is_tail [] = true
is_tail (frame.Holder (holder.Sequence l es) ∷ fs) = if_last es.now (is_tail fs)
is_tail (frame.Holder h ∷ fs) = false
is_tail (frame.Body outer ∷ fs) = true
