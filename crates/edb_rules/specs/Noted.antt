-- What the world tells the server, and what that changes.

use Rattle.std.specs.Prelude.{ℕ, zero, suc, Bool, true, false, if◌then◌else◌, not, ◌&&◌, List, [], ◌∷◌, ◌++◌, Option, None, Some, is_some, is_none}
use Rattle.std.specs.Option.{option_map_or}
use Rattle.std.specs.List.{list_any}
use Rattle.edb_lang.specs.declared.small.Action.{Action}
use Rattle.edb_model.specs.Labels.{with_version}
use Rattle.edb_event.specs.declared.call.AutoFlag.{AutoFlag}
use Rattle.edb_event.specs.declared.call.AutoFlag.TheVariants as flag
use Rattle.edb_rules.specs.TableEdits as edits
use Rattle.edb_rules.specs.Seen.{Frame, SeenStop, SeenCall, Seen, new_seen}
use Rattle.edb_rules.specs.Server.{Server, seen_at, is_made, console_of}
use Rattle.edb_rules.specs.Called.{with_seen}

-- Process p was made; a version of a module became the current one; process p came to interpreted code, in this function;
-- it left it; it stopped before the expression at this module and line, in a call of this level, with these frames; its meta
-- process asks for an act, for a message or not; that took the act's answer; the trigger of the breakpoint with this serial
-- came; process p ended, with the text of its reason.
pub data Noted : Type 0 where
  started : ℕ → Noted
  loaded : List ℕ → ℕ → Noted
  entered : ℕ → List ℕ → List ℕ → ℕ → Noted
  left : ℕ → Noted
  stopped : ℕ → List ℕ → ℕ → ℕ → List Frame → Noted
  asks : ℕ → Bool → Noted
  took : ℕ → Noted
  triggered : List ℕ → ℕ → ℕ → Action → Noted
  ended : ℕ → List ℕ → Noted

-- something at a place of a list, counted from 0, if nothing is there; before it is none, where nothing was
abbrev pub placed : {A : Type 0} → ℕ → A → List (Option A) → List (Option A)
placed zero x [] = Some x ∷ []
placed zero x (None ∷ ys) = Some x ∷ ys
placed zero x (Some y ∷ ys) = Some y ∷ ys
placed (suc n) x [] = None ∷ placed n x []
placed (suc n) x (y ∷ ys) = y ∷ placed n x ys

-- ONE PROCESS MORE. A number that was told before, and 0, change nothing.
abbrev pub with_process : ℕ → List (Option Seen) → List (Option Seen)
with_process zero seen = seen
with_process (suc n) seen = placed n new_seen seen

abbrev pub is_new : Server → ℕ → Bool
is_new s zero = false
is_new s (suc n) = not (is_made s (suc n))

-- news of a process that has ended changes nothing
abbrev pub while_lives : (Seen → Seen) → Seen → Seen
while_lives change x = if is_some x.ended then x else change x

abbrev pub first_call : SeenCall → Option SeenCall → Option SeenCall
first_call f None = Some f
first_call f (Some g) = Some g

abbrev pub entered_seen : SeenCall → Seen → Seen
entered_seen f x = record x { first = first_call f x.first; is_interpreted = true }

abbrev pub left_seen : Seen → Seen
left_seen x = record x { is_interpreted = false; is_waiting = false }

abbrev pub stopped_seen : SeenStop → Seen → Seen
stopped_seen stop x = record x { stop = Some stop }

abbrev pub waiting_seen : Bool → Seen → Seen
waiting_seen b x = record x { is_waiting = b }

abbrev pub ended_seen : List ℕ → Seen → Seen
ended_seen reason x = record x { is_interpreted = false; is_waiting = false; stop = None; ended = Some reason }

-- whether process p was made, hasn't ended, and this is so of it
abbrev pub is_so : Server → ℕ → (Seen → Bool) → Bool
is_so s p is = option_map_or (λ (x : Seen). is_none x.ended && is x) (seen_at s p) false

abbrev pub has_flag : AutoFlag → List AutoFlag → Bool
has_flag a flags = list_any (same a) flags
  where
    same : AutoFlag → AutoFlag → Bool
    same flag.Init flag.Init = true
    same flag.Break flag.Break = true
    same flag.Exit flag.Exit = true
    same _ _ = false

-- A CONSOLE IS ATTACHED BY ITSELF to process p, by this flag: if nobody is, and it is so, and the flag is set, the console of the
-- flags is.
abbrev pub attached_by : Server → ℕ → AutoFlag → Bool → List (ℕ × ℕ)
attached_by s p a is = if (is && has_flag a s.flags) && is_none (console_of p s.attached) then s.attached ++ (p, s.flag_console) ∷ [] else s.attached

-- WHAT EACH NEWS CHANGES. By the flag `init` a console is attached at a process's first interpreted expression, by `break` at
-- each stop, and by `exit` at the end of a process that ever was interpreted.
abbrev pub noted : Server → Noted → Server
noted s (started p) = record s { seen = with_process p s.seen; made = if is_new s p then suc s.made else s.made }
noted s (loaded m v) = record s { current = with_version m v s.current }
noted s (entered p m n a) =
    record (with_seen s p (while_lives (entered_seen (record { home = m; name = n; arity = a })))) {
      attached = attached_by s p flag.Init (is_so s p (λ x. is_none x.first));
    }
noted s (left p) = with_seen s p (while_lives left_seen)
noted s (stopped p m l level frames) =
    record (with_seen s p (while_lives (stopped_seen (record { home = m; line = l; level = level; frames = frames })))) {
      attached = attached_by s p flag.Break (is_so s p (λ x. true));
    }
noted s (asks p receive) = with_seen s p (while_lives (waiting_seen receive))
noted s (took p) = with_seen s p (while_lives (waiting_seen false))
noted s (triggered m l serial a) = record s { table = edits.triggered a serial m l s.table }
noted s (ended p reason) =
    record (with_seen s p (while_lives (ended_seen reason))) {
      attached = attached_by s p flag.Exit (is_so s p (λ x. is_some x.first));
    }
