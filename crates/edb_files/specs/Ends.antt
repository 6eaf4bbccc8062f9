-- Ends that come for their causes.

use Rattle.std.specs.Prelude.{◌≡◌, ◌⊎◌}

-- the end is the one that is expected, or the one that comes out of memory
abbrev pub IsOneOf : {End : Type 0} → End → End → End → Type 0
IsOneOf no_memory expected end = (end ≡ expected) ⊎ (end ≡ no_memory)
