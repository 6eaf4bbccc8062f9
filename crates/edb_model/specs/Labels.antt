-- Labels: the steps of a plain run, which has nothing of the debugger but for what `skip`, `kill` and `timeout` change.

use Rattle.std.specs.Prelude.{◌≡◌, ℕ, List, [], ◌∷◌, ◌++◌, if◌then◌else◌, nat_lt, length, map, is_some, Option, None, Some}
use Rattle.std.specs.Option.{option_and_then}
use Rattle.edb_lang.specs.Terms.{Datum, elements}
use Rattle.edb_lang.specs.Syntax.{ModuleTree}
use Rattle.edb_lang.specs.TermText.{same_name}
use Rattle.edb_model.specs.Running.{Run, opening_call}
use Rattle.edb_model.specs.Lookup.{version_in}
use Rattle.edb_model.specs.Move.{Next, next, is_move, moved}
use Rattle.edb_model.specs.Plain.{Plain, opening, running_at, with_running, with_newborn}
use Rattle.edb_model.specs.Procs.{most_processes}
use Rattle.edb_model.specs.Acts.{acted}

-- Process p makes a pure move; process p makes the act that is next for it; the first signal in flight is
-- delivered; the clock goes on to a time; a process starts with the call of a module's function with the
-- elements of a list; a version of a module becomes the current one; the expression that process p is about to begin is
-- left out; process p is ended; the deadline of process p, which waits for a message, becomes the clock.
pub data Label : Type 0 where
  move : ℕ → Label
  act : ℕ → Label
  signal : Label
  advance : ℕ → Label
  start : List ℕ → List ℕ → Datum → Label
  load : List ℕ → ℕ → Label
  skip : ℕ → Label
  kill : ℕ → Label
  expire : ℕ → Label

abbrev pub moved_in : List ModuleTree → Plain → ℕ → Run → Plain
moved_in code s p t = with_running s p (Some (moved code s.versions t))

-- the number beside a module's name, changed
abbrev pub with_version : List ℕ → ℕ → List (List ℕ × ℕ) → List (List ℕ × ℕ)
with_version m k versions = map (λ p. if same_name p.0 m then (p.0, k) else p) versions

-- The state after a label; none if the label isn't enabled. No act makes a link or a monitor yet, so no signal is ever in
-- flight, and none sets a deadline: these come with the acts that do, and so does that an act waits while a signal that
-- its process sent is in flight. No console may skip, kill or let time run out yet.
abbrev pub step : List ModuleTree → Plain → Label → Option Plain
step code s (move p) =
    option_and_then (λ (t : Run). if is_move (next t) then Some (moved_in code s p t) else None) (running_at s p)
step code s (act p) = option_and_then (λ (t : Run). acted s p t (next t)) (running_at s p)
step code s signal = None
step code s (advance t) = None
step code s (skip p) = None
step code s (kill p) = None
step code s (expire p) = None
step code s (load m k) = if is_some (version_in code m k) then Some (record s { versions = with_version m k s.versions }) else None
step code s (start m f args) =
    if nat_lt (length s.running) most_processes
    then Some (with_newborn s (opening_call m f (elements args)))
    else None

-- the state after labels, each enabled after those before it; none where one isn't
abbrev pub steps : List ModuleTree → Plain → List Label → Option Plain
steps code s [] = Some s
steps code s (l ∷ ls) = option_and_then (λ (t : Plain). steps code t ls) (step code s l)

-- a plain run: labels that lead from the opening state to this one
abbrev pub IsPlainRun : List ModuleTree → List Label → Plain → Type 0
IsPlainRun code labels s = steps code (opening code) labels ≡ Some s
