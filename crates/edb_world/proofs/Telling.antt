-- What the server is told, in the state after an entry.

use Rattle.std.proofs.Common.{◌≡◌, ◌≤◌, ◌+◌, ◌-◌, ℕ, zero, suc, true, false, [], Some, slice_set, refl, ◌∙◌, ap, arith}
use Rattle.edb_model.specs.Running.{Run}
use Rattle.edb_model.specs.Move.{next}
use Rattle.edb_event.specs.declared.entry.Cause.{Cause}
use Rattle.edb_event.specs.declared.entry.Entry.{Entry}
use Rattle.edb_rules.specs.Facts.{Debuggee, debuggee_at}
use Rattle.edb_rules.specs.Seen.{SeenStop}
use Rattle.edb_rules.specs.Server.{Server}
use Rattle.edb_rules.specs.Slices.{level_in}
use Rattle.edb_rules.specs.SliceEnds.{place_of}
use Rattle.edb_rules.specs.News.{frames_in}
use Rattle.edb_rules.specs.Noted as news
use Rattle.edb_rules.specs.Notes.{owed_by}
use Rattle.edb_world.specs.Known.{Known, coming, running_at}
use Rattle.edb_world.specs.Turns.{IsEndNoted, stopped_by}

-- a process has stopped
pub stop_noted : (k new : Known) (p : ℕ) (t : Run) (by : Cause) (d e : Debuggee) (stop : SeenStop) (s : Server) (what : Entry) → 1 ≤ p → running_at k p ≡ Some t → debuggee_at k.facts p ≡ d
    → e ≡ record d { is_stopped = true; is_resumed = true; owed = owed_by d.handout.rows (place_of (next t)).0 (place_of (next t)).1 by }
    → stop ≡ record { home = (place_of (next t)).0; line = (place_of (next t)).1; level = level_in t; frames = frames_in (place_of (next t)).1 (Some t) }
    → s ≡ news.noted k.facts.server (news.stopped p stop.home stop.line stop.level stop.frames)
    → k.facts.has_quit ≡ false → what ≡ stopped_by p by t
    → new ≡ record k { facts = record k.facts { server = s; debuggees = slice_set k.facts.debuggees (p - 1) e; weight = k.facts.weight + 1; coming = [] } }
    → IsEndNoted k new what
stop_noted k new zero t by d e stop s what some lives known after is told open_ entry_is same = absurd (omega (arith, some))
stop_noted k new (suc i) t by d e stop s what some lives known after is told open_ entry_is same =
    let back : suc i - 1 ≡ i = omega arith in
    (ap (λ (x : Known). x.facts.coming) same, λ rest. ap (coming rest) same ∙ rw (entry_is, told, is, back, after, ← known, lives, open_) refl)
