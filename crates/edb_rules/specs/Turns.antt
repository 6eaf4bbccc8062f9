-- Turns: what is next for a process, and whose turn it is.

use Rattle.std.specs.Prelude.{◌≡◌, ◌⊎◌, ℕ, ◌<◌, ◌≤◌, if◌then◌else◌, ◌||◌, List, [], Option, None, Some}
use Rattle.std.specs.Option.{option_map, option_and_then}
use Rattle.edb_lang.specs.Terms.{Datum}
use Rattle.edb_lang.specs.declared.act.ActKind.{ActKind}
use Rattle.edb_lang.specs.declared.act.ActKind.TheVariants as kind
use Rattle.edb_model.specs.Running.{Run}
use Rattle.edb_model.specs.Move.{Next, begins, acts, pure, next, redex}
use Rattle.edb_model.specs.Acts.{exit_reason, displayed, true_term}
use Rattle.edb_model.specs.Plain.{running_at}
use Rattle.edb_rules.specs.Facts.{Debuggee, Facts, debuggee_at}

-- an act: its kind, its answer, and what it prints
pub record Act : Type 0 where
  pub kind : ActKind
  pub answer : Datum
  pub prints : List ℕ

-- the act of a kind that is next for an expression, if it is one of those that come yet
abbrev pub act_of : ActKind → Run → Option Act
act_of kind.Print t = Some (record { kind = kind.Print; answer = true_term; prints = displayed (redex t).1 })
act_of kind.End t = Some (record { kind = kind.End; answer = exit_reason t; prints = [] })
act_of _ t = None

-- THE TURN of a process: it is given a lease for pure moves; or it makes the act that is next. The turns by which a meta
-- asks for an act, takes its answer, and takes in a message come with pairs.
pub data Turn : Type 0 where
  leases : Turn
  does : Act → Turn

abbrev pub turn_at : Run → Next → Option Turn
turn_at t (acts k) = option_map does (act_of k t)
turn_at t (begins m l) = Some leases
turn_at t pure = Some leases

-- a process that is stopped has none, nor one of which a lease is out
abbrev pub turn_for : Debuggee → Run → Option Turn
turn_for d t = if d.is_stopped || d.is_out then None else turn_at t (next t)

-- the turn of process p, if it is ready for one
abbrev pub turn_of : Facts → ℕ → Option Turn
turn_of f p = option_and_then (turn_for (debuggee_at f p)) (running_at f.plain p)

-- turns go round by number: q stands behind the process that had the last turn and before p
abbrev pub IsSooner : ℕ → ℕ → ℕ → Type 0
IsSooner last q p = ((last < q) × (q < p)) ⊎ ((p ≤ last) × ((last < q) ⊎ (q < p)))

-- no process that is ready stands sooner than p
abbrev pub IsFirst : Facts → ℕ → Type 0
IsFirst f p = (q : ℕ) (turn : Turn) → turn_of f q ≡ Some turn → IsSooner f.turn q p → ⊥
