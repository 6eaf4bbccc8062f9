-- What a hole sees, by the layers round it.

use Rattle.std.proofs.Common.{◌≡◌, ℕ, List, [], ◌∷◌, ◌++◌, Some, slice_get, refl, ap, ◌∙◌}
use Rattle.edb_syntax.specs.Syntax as syntax
use Rattle.edb_syntax.specs.Syntax.{ModuleTree}
use Rattle.edb_moves.specs.Running as run
use Rattle.edb_moves.specs.Running.{Info, Frame}
use Rattle.edb_moves.specs.Going.{Place, inside}
use Rattle.edb_moves.proofs.GoLaws.{inside_sees}
use Rattle.edb_stack.specs.Parts.{Layer, operands, frame, scope, caught, tried, waiting, body}
use Rattle.edb_stack.specs.Trees.{outward}
use Rattle.edb_stack.specs.Places.{place}
use Rattle.edb_stack.specs.Marks.{AllOpen}
use Rattle.edb_stack.specs.Bodies.{modules_of}
use Rattle.edb_stack.proofs.Turned.{place_bindings}
use Rattle.edb_stack.proofs.BodiesTold.{modules_told}
use Rattle.edb_path.specs.Sights.{Sees}
use Rattle.edb_running.specs.Tails.{ends, both, is_last}

in_frame : (f : Frame) (p : Place) → (inside f p).is_tail ≡ both (ends f) p.is_tail
in_frame (run.sequence l syntax.none) p = refl
in_frame (run.sequence l (syntax.more e es)) p = refl
in_frame (run.match q) p = refl
in_frame (run.select cs) p = refl
in_frame (run.and_then e) p = refl
in_frame (run.or_then e) p = refl
in_frame (run.generate q e qs) p = refl
in_frame (run.filter e qs) p = refl
in_frame (run.gather d v) p = refl
in_frame (run.scope bs) p = refl
in_frame (run.caught bs) p = refl
in_frame (run.tried bs cs hs) p = refl
in_frame (run.waiting bs s) p = refl
in_frame (run.resume o) p = refl

-- WHETHER THE HOLE IS LAST
pub tail_told : (p : Place) (ls : List Layer) (i : Info) → (place p ls i).is_tail ≡ is_last ls
unfolding place
tail_told p [] i = refl
tail_told p (operands o done rest ∷ ls) i = refl
tail_told p (frame f ∷ ls) i = in_frame f (place p ls i) ∙ ap (both (ends f)) (tail_told p ls i)
tail_told p (scope m ∷ ls) i = refl
tail_told p (caught m ∷ ls) i = refl
tail_told p (tried m cs hs ∷ ls) i = refl
tail_told p (waiting m s ∷ ls) i = refl
tail_told p (body o ∷ ls) i = refl

process : (p : Place) (ls : List Layer) (i : Info) → (place p ls i).me ≡ p.me
unfolding place
process p [] i = refl
process p (operands o done rest ∷ ls) i = process p ls i
process p (frame f ∷ ls) i = (inside_sees f (place p ls i)).0 ∙ process p ls i
process p (scope m ∷ ls) i = process p ls (outward (scope m) i)
process p (caught m ∷ ls) i = process p ls i
process p (tried m cs hs ∷ ls) i = process p ls i
process p (waiting m s ∷ ls) i = process p ls i
process p (body o ∷ ls) i = process p ls o

level : (p : Place) (ls : List Layer) (i : Info) → (place p ls i).level ≡ i.level
unfolding place
level p [] i = refl
level p (operands o done rest ∷ ls) i = level p ls i
level p (frame f ∷ ls) i = (inside_sees f (place p ls i)).1 ∙ level p ls i
level p (scope m ∷ ls) i = level p ls (outward (scope m) i)
level p (caught m ∷ ls) i = level p ls i
level p (tried m cs hs ∷ ls) i = level p ls i
level p (waiting m s ∷ ls) i = level p ls i
level p (body o ∷ ls) i = refl

first_module : (ls : List Layer) (i : Info) (more : List (ModuleTree × ℕ)) → slice_get (modules_of ls i ++ more) 0 ≡ Some (i.home, i.version)
unfolding modules_of
first_module [] i more = refl
first_module (body o ∷ ls) i more = refl
first_module (scope m ∷ ls) i more = first_module ls (outward (scope m) i) more
first_module (operands o done rest ∷ ls) i more = first_module ls i more
first_module (frame f ∷ ls) i more = first_module ls i more
first_module (caught m ∷ ls) i more = first_module ls i more
first_module (tried m cs hs ∷ ls) i more = first_module ls i more
first_module (waiting m s ∷ ls) i more = first_module ls i more

-- THE HOLE SEES the innermost Body
pub hole_sees : (p : Place) (ls : List Layer) (i : Info) → AllOpen ls → Sees p.me i (place p ls i)
hole_sees p ls i a = record {
  process = process p ls i;
  level = level p ls i;
  bindings = place_bindings p ls i a;
  home = ap (λ bs. slice_get bs 0) (modules_told p ls i) ∙ first_module ls i p.bodies;
}
