-- What a session's journal says of stops, commands and replies.

use Rattle.std.specs.Prelude.{◌≡◌, ℕ, false, List, length, Some, slice_get, take}
use Rattle.edb_event.specs.declared.call.Call.{Call}
use Rattle.edb_event.specs.declared.entry.Cause.{Cause}
use Rattle.edb_event.specs.declared.entry.Entry.{Entry}
use Rattle.edb_event.specs.declared.entry.Entry.TheVariants as entry
use Rattle.edb_event.specs.declared.reply.Reply.{Reply}
use Rattle.edb_rules.specs.Plans.{Plan}
use Rattle.edb_rules.specs.Facts.{debuggee_at}
use Rattle.edb_rules.specs.Notes.{facts}
use Rattle.edb_rules.specs.Legal.{IsAnswer, IsDone}
use Rattle.edb_rules.specs.Consoles.{command_of}
use Rattle.edb_event.specs.Books.{commands_of}
use Rattle.edb_event.specs.Ranges.{IsConsole}
use Rattle.edb_rules.specs.Stops.{WasDue, StandsBefore, PassesNone}
use Rattle.edb_rules.specs.Commands.{commands_in, IsCommandAt}

-- Each stop stands where a beginning was due, by what its process had last taken in: the process is about to begin
-- the expression at that module and line, and made a move since it stopped before.
abbrev pub StopsWereDue : Plan → List Entry → Type 0
StopsWereDue plan journal =
    (k p : ℕ) (m : List ℕ) (l n : ℕ) (by : Cause) → slice_get journal k ≡ Some (entry.Stop p m l n by)
    → WasDue (debuggee_at (facts plan (take k journal)) p).handout m l n by × StandsBefore (facts plan (take k journal)).plain p m l
    × ((debuggee_at (facts plan (take k journal)) p).is_resumed ≡ false)

-- No move passes a beginning that is due.
abbrev pub NoneWasPassed : Plan → List Entry → Type 0
NoneWasPassed plan journal =
    (k p n c : ℕ) → slice_get journal k ≡ Some (entry.Ran p n c) → PassesNone plan (facts plan (take k journal)) p n

-- Each console's commands come once and in order, each with its word found to be a process at its entry's place.
abbrev pub CommandsInOrder : Plan → List Entry → Type 0
CommandsInOrder plan journal =
    (k : ℕ) (e : Entry) (c : ℕ) (x : Call) → slice_get journal k ≡ Some e → command_of e ≡ Some (c, x)
    → IsConsole c × IsCommandAt plan (facts plan (take k journal)) c (commands_in c (take k journal)) x

-- All of them come, where nothing is left to do.
abbrev pub AllCame : Plan → List Entry → Type 0
AllCame plan journal = IsDone plan (facts plan journal) → (c : ℕ) → IsConsole c → commands_in c journal ≡ length (commands_of c plan.commands)

-- Each reply is that of one thread which serves all commands.
abbrev pub RepliesOfOneThread : Plan → List Entry → Type 0
RepliesOfOneThread plan journal =
    (k c : ℕ) (x : Call) (r : Reply) → slice_get journal k ≡ Some (entry.Served c x r) → IsAnswer plan (facts plan (take k journal)) c x r
