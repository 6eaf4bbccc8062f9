-- That what the interpreter server has seen agrees with what is: two pictures of one process.

use Rattle.std.specs.Prelude.{◌≡◌, ℕ, Bool, false, is_some, is_none, Option, Some}
use Rattle.std.specs.Option.{option_map, option_and_then, option_map_or}
use Rattle.edb_lang.specs.Terms.{Datum}
use Rattle.edb_lang.specs.TermText.{term_text}
use Rattle.edb_model.specs.Running.{Run}
use Rattle.edb_model.specs.Move.{begins, next}
use Rattle.edb_model.specs.Procs.{numbered, new_member}
use Rattle.edb_model.specs.Plain.{running_at}
use Rattle.edb_rules.specs.Seen.{Seen, SeenStop}
use Rattle.edb_rules.specs.Server.{seen_at}
use Rattle.edb_rules.specs.Facts.{Debuggee, Facts, debuggee_at}
use Rattle.edb_rules.specs.Slices.{level_in}
use Rattle.edb_rules.specs.News.{frames_in}

-- what was seen of a process, if it was made: whether a meta process interprets it, whether it lives, where it is stopped, and
-- the text of its reason
abbrev pub seen_inside : Option Seen → Bool
seen_inside o = option_map_or (λ (x : Seen). x.is_interpreted) o false

abbrev pub seen_living : Option Seen → Bool
seen_living o = option_map_or (λ (x : Seen). is_none x.ended) o false

abbrev pub seen_stop : Option Seen → Option SeenStop
seen_stop o = option_and_then (λ (x : Seen). x.stop) o

-- A stop is where a process stands: the expression that is next begins at its module and line, the level is that of the
-- innermost Body, and the frames are those of what it has to do.
pub record StandsAt (t : Option Run) (stop : SeenStop) : Type 0 where
  pub running : Run
  pub lives : t ≡ Some running
  pub at : next running ≡ begins stop.home stop.line
  pub level : stop.level ≡ level_in running
  pub frames : stop.frames ≡ frames_in stop.line t

-- What was seen of a process agrees with what the debugger knows of it, with what it has to do, and with its reason.
pub record Agrees (o : Option Seen) (d : Debuggee) (t : Option Run) (reason : Option Datum) : Type 0 where
  pub interpreted : seen_inside o ≡ d.is_interpreted
  pub stopped : is_some (seen_stop o) ≡ d.is_stopped
  pub lives : seen_living o ≡ is_some t
  pub ended : option_and_then (λ (x : Seen). x.ended) o ≡ option_map term_text reason
  pub stands : (stop : SeenStop) → seen_stop o ≡ Some stop → StandsAt t stop

-- the reason of process p, once it has ended
abbrev pub reason_of : Facts → ℕ → Option Datum
reason_of f p = (numbered new_member f.plain.procs.members p).exit

-- so it is of process p
abbrev pub AgreesOn : Facts → ℕ → Type 0
AgreesOn f p = Agrees (seen_at f.server p) (debuggee_at f p) (running_at f.plain p) (reason_of f p)
