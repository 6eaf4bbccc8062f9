-- Orders: how a console lets a process go on.

use Rattle.std.specs.Prelude.{ℕ, false, if◌then◌else◌, Some}
use Rattle.std.specs.Option.{option_map_or}
use Rattle.edb_frames.specs.declared.mode.Mode.{Mode}
use Rattle.edb_frames.specs.declared.mode.Mode.TheVariants as mode
use Rattle.edb_model.specs.Plain.{Plain, running_at}
use Rattle.edb_event.specs.declared.call.Call.{Call}
use Rattle.edb_event.specs.declared.call.Call.TheVariants as command
use Rattle.edb_rules.specs.Facts.{Debuggee}
use Rattle.edb_rules.specs.Slices.{level_in}

-- A command lets a stopped process go on in a mode; or it gives one that goes on the order to stop at the first stop point
-- under its next lease; or it gives no order.
pub data Order : Type 0 where
  resumes : Mode → Order
  halts : Order
  no_order : Order

-- the level of the innermost Body of process p
abbrev pub level_at : Plain → ℕ → ℕ
level_at s p = option_map_or level_in (running_at s p) 0

-- the order of a command, with the level at which the process stands
abbrev pub order_of : Plain → Call → Order
order_of s (command.Step p) = resumes mode.Step
order_of s (command.Next p) = resumes (mode.Next (level_at s p))
order_of s (command.Finish p) = resumes (mode.Finish (level_at s p))
order_of s (command.Continue p) = resumes mode.Run
order_of s (command.Halt p) = halts
order_of s _ = no_order

-- the process that a command gives an order; 0 if it gives none
abbrev pub ordered_process : Call → ℕ
ordered_process (command.Step p) = p
ordered_process (command.Next p) = p
ordered_process (command.Finish p) = p
ordered_process (command.Continue p) = p
ordered_process (command.Halt p) = p
ordered_process _ = 0

-- An order that lets a process go on does so where it is stopped, and else nothing; `halt` is for one that isn't stopped.
abbrev pub with_order : Order → Debuggee → Debuggee
with_order (resumes m) d = if d.is_stopped then record d { is_stopped = false; order = Some m } else d
with_order halts d = if d.is_stopped then d else record d { order = Some mode.Step }
with_order no_order d = d
