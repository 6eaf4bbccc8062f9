-- The Bodies among frames.

use Rattle.std.specs.Prelude.{ℕ, List, [], ◌∷◌, Option, None, Some}
use Rattle.edb_eval.specs.declared.frames.Frame.{Frame}
use Rattle.edb_eval.specs.declared.frames.Frame.TheVariants as frame

-- the module and version of each Body that has a frame, from the innermost one outward
abbrev pub outer_bodies : List Frame → List (List ℕ × ℕ)
outer_bodies [] = []
outer_bodies (frame.Holder h ∷ fs) = outer_bodies fs
outer_bodies (frame.Body o ∷ fs) = (o.home, o.version) ∷ outer_bodies fs

-- a version that is known, or the first one
abbrev pub version_or_first : Option ℕ → ℕ
version_or_first (Some k) = k
version_or_first None = 1
