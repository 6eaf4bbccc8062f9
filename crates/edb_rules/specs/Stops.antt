-- What a legal journal says of its stops: they were due, and no move passes a beginning that is due.

use Rattle.std.specs.Prelude.{◌≡◌, ℕ, ◌<◌, true, false, List, None, Some}
use Rattle.edb_lang.specs.declared.small.Break.{Break}
use Rattle.edb_frames.specs.Modes.{asks}
use Rattle.edb_model.specs.Running.{Run}
use Rattle.edb_model.specs.Move.{begins, next}
use Rattle.edb_model.specs.Plain.{Plain, running_at}
use Rattle.edb_event.specs.declared.entry.Cause.{Cause}
use Rattle.edb_event.specs.declared.entry.Cause.TheVariants as cause
use Rattle.edb_rules.specs.Plans.{Plan}
use Rattle.edb_rules.specs.Facts.{Handout, Facts, debuggee_at}
use Rattle.edb_rules.specs.Server.{is_among}
use Rattle.edb_rules.specs.Slices.{mode_of, active_among, has_body, due, end_at, after_moves}

-- By what a process took in, a beginning at this module and line in a call of this level was due at the breakpoint with this
-- serial: an active row there has the serial, the module is interpreted, and how the process goes on asks for no stop there.
pub record HasActive (h : Handout) (m : List ℕ) (l level serial : ℕ) : Type 0 where
  pub breakpoint : Break
  pub active : active_among m l h.rows ≡ Some breakpoint
  pub same : breakpoint.serial ≡ serial
  pub interpreted : is_among m h.modules ≡ true
  pub unasked : asks (mode_of h) level ≡ false

-- By how a process goes on, a beginning at this module in a call of this level was asked for.
pub record IsAsked (h : Handout) (m : List ℕ) (level : ℕ) : Type 0 where
  pub asks : asks (mode_of h) level ≡ true
  pub interpreted : is_among m h.modules ≡ true

-- A stop was due: by an order that asked for it, or by a breakpoint that was active there.
abbrev pub WasDue : Handout → List ℕ → ℕ → ℕ → Cause → Type 0
WasDue h m l level cause.Order = IsAsked h m level
WasDue h m l level (cause.Break serial) = HasActive h m l level serial

-- Process p is about to begin the expression at this module and line.
pub record StandsBefore (s : Plain) (p : ℕ) (m : List ℕ) (l : ℕ) : Type 0 where
  pub running : Run
  pub lives : running_at s p ≡ Some running
  pub at : next running ≡ begins m l

-- A process goes on from the expression after i moves of a slice: the slice doesn't end there; so no beginning is due
-- there; if the process is interpreted it has a Body of an interpreted module; and if it isn't, none of an interpreted
-- module is to begin.
pub record GoesOn (plan : Plan) (h : Handout) (p : ℕ) (t : Run) (i : ℕ) : Type 0 where
  pub goes : end_at plan.code h p t i ≡ None
  pub undue : (m : List ℕ) (l : ℕ) → next (after_moves plan.code h.versions i t) ≡ begins m l → due plan.code h p i (after_moves plan.code h.versions i t) m l ≡ None
  pub inside : h.is_interpreted ≡ true → has_body h.modules (after_moves plan.code h.versions i t) ≡ true
  pub outside : (m : List ℕ) (l : ℕ) → next (after_moves plan.code h.versions i t) ≡ begins m l → h.is_interpreted ≡ false → is_among m h.modules ≡ false

-- The n moves of process p pass nothing that is due: it goes on from each expression before the last.
pub record PassesNone (plan : Plan) (f : Facts) (p n : ℕ) : Type 0 where
  pub running : Run
  pub lives : running_at f.plain p ≡ Some running
  pub each : (i : ℕ) → i < n → GoesOn plan (debuggee_at f p).handout p running i
