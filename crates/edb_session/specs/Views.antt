-- The words of a session, as its definitions see them.

use Rattle.std.specs.Prelude.{ℕ, List, map}
use denote.Ref.{Bor}

-- the names, as the code keeps them
abbrev pub texts_of : List (Bor (List ℕ)) → List (List ℕ)
texts_of names = map (λ (name : Bor (List ℕ)). name.now) names
