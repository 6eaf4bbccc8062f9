-- One reading after another, of which each may find nothing.

use Rattle.std.specs.Prelude.{Option, None, Some}

infixl 10 ◌>>=◌
abbrev pub ◌>>=◌ : {A B : Type 0} → Option A → (A → Option B) → Option B
◌>>=◌ (Some a) next = next a
◌>>=◌ None next = None
