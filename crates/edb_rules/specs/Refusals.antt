-- Why a command is refused.

use Rattle.std.specs.Prelude.{ℕ, Bool, if◌then◌else◌, not, nat_lt, List, [], ◌∷◌, ◌++◌, is_some, is_none, Option, None, Some}
use Rattle.edb_breaks.specs.Table.{row_at}
use Rattle.edb_model.specs.Lookup.{versions_in}
use Rattle.edb_model.specs.Procs.{most_processes}
use Rattle.edb_event.specs.declared.call.Call.{Call}
use Rattle.edb_event.specs.declared.call.Call.TheVariants as command
use Rattle.edb_event.specs.declared.reply.Refusal.{Refusal}
use Rattle.edb_event.specs.declared.reply.Refusal.TheVariants as refusal
use Rattle.edb_rules.specs.Server.{Server, is_among, is_made, is_interpreted, stop_at, console_of, is_console_of, is_held, clause_lines}

-- the first refusal whose case holds
abbrev pub first_case : List (Bool × Refusal) → Option Refusal
first_case [] = None
first_case (c ∷ cs) = if c.0 then Some c.1 else first_case cs

-- No such process was made; no meta process interprets it, or it has ended; the console isn't attached to it; it isn't
-- stopped.
abbrev pub no_process : Server → ℕ → Bool × Refusal
no_process s p = (not (is_made s p), refusal.NoProcess)

abbrev pub not_interpreted : Server → ℕ → Bool × Refusal
not_interpreted s p = (not (is_interpreted s p), refusal.NotInterpreted)

abbrev pub not_attached : Server → ℕ → ℕ → Bool × Refusal
not_attached s c p = (not (is_console_of c p s.attached), refusal.NotAttached)

abbrev pub not_stopped : Server → ℕ → Bool × Refusal
not_stopped s p = (not (is_some (stop_at s p)), refusal.NotStopped)

-- the cases of a command about a process that has to be interpreted; that the console has to be attached to; and that has
-- to be stopped
abbrev pub interpreted_cases : Server → ℕ → List (Bool × Refusal)
interpreted_cases s p = no_process s p ∷ (not_interpreted s p ∷ [])

abbrev pub attached_cases : Server → ℕ → ℕ → List (Bool × Refusal)
attached_cases s c p = no_process s p ∷ (not_interpreted s p ∷ (not_attached s c p ∷ []))

abbrev pub stopped_cases : Server → ℕ → ℕ → List (Bool × Refusal)
stopped_cases s c p = no_process s p ∷ (not_interpreted s p ∷ (not_attached s c p ∷ (not_stopped s p ∷ [])))

-- no file holds a module, or its current version has no such function
abbrev pub no_function : Server → List ℕ → List ℕ → ℕ → Bool × Refusal
no_function s m f a = (is_none (clause_lines s m f a), refusal.FunctionNotFound)

-- THE CASES OF EACH COMMAND, in the order in which they are tried. Those that aren't named are never refused. Whether a
-- process waits for a message the server can't tell: that case of `timeout` is `waiting_cases`.
abbrev pub cases_of : Server → ℕ → Call → List (Bool × Refusal)
cases_of s c (command.Start m n args) = (not (nat_lt s.made most_processes), refusal.SystemLimit) ∷ []
cases_of s c (command.Load m v) = (not (is_held s.code m), refusal.NoModule) ∷ ((nat_lt (versions_in s.code m) v, refusal.NoVersion) ∷ [])
cases_of s c (command.Ii m) = (not (is_held s.code m), refusal.NoModule) ∷ []
cases_of s c (command.Iq m) = (not (is_among m s.interpreted), refusal.NotInterpreted) ∷ []
cases_of s c (command.Ib m l) = (is_some (row_at m l s.table), refusal.BreakExists) ∷ []
cases_of s c (command.IbIn m f a) = no_function s m f a ∷ []
cases_of s c (command.IrIn m f a) = no_function s m f a ∷ []
cases_of s c (command.Ia p) = no_process s p ∷ (not_interpreted s p ∷ ((is_some (console_of p s.attached), refusal.AlreadyAttached) ∷ []))
cases_of s c (command.Detach p) = no_process s p ∷ (not_attached s c p ∷ [])
cases_of s c (command.Step p) = stopped_cases s c p
cases_of s c (command.Next p) = stopped_cases s c p
cases_of s c (command.Finish p) = stopped_cases s c p
cases_of s c (command.Halt p) = attached_cases s c p
cases_of s c (command.Continue p) = interpreted_cases s p
cases_of s c (command.Skip p) = stopped_cases s c p
cases_of s c (command.Kill p) = attached_cases s c p
cases_of s c (command.Timeout p) = attached_cases s c p
cases_of s c (command.Bindings p) = stopped_cases s c p
cases_of s c (command.Frames p) = stopped_cases s c p
cases_of s c _ = []

-- why a command of console c is refused, where it is
abbrev pub refused : Server → ℕ → Call → Option Refusal
refused s c x = first_case (cases_of s c x)

-- the cases of `timeout` for one who knows whether the process waits for a message
abbrev pub waiting_cases : Server → ℕ → ℕ → Bool → List (Bool × Refusal)
waiting_cases s c p waits = attached_cases s c p ++ (not waits, refusal.NotWaiting) ∷ []
