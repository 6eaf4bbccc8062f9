-- Modes: how a process goes on, and where it stops by that.

use Rattle.std.specs.Prelude.{◌≡◌, ℕ, Bool, true, false, nat_le, nat_lt, refl}
use Rattle.edb_frames.specs.declared.mode.Mode.{Mode}
use Rattle.edb_frames.specs.declared.mode.Mode.TheVariants as mode

-- Whether a mode asks a process to stop before an expression in a call of this level: `run` never; `step` always; `next`
-- in a call of its own level or below; `finish` in one below its own level.
abbrev pub asks : Mode → ℕ → Bool
asks mode.Run level = false
asks mode.Step level = true
asks (mode.Next own) level = nat_le level own
asks (mode.Finish own) level = nat_lt level own
