-- What each entry changes, part by part: the facts after a journal are a fold over its entries.

use Rattle.std.specs.Prelude.{ℕ, ◌+◌, Bool, true, false, if◌then◌else◌, not, ◌&&◌, ◌||◌, nat_eq, nat_lt, is_some, unwrap_or, length, map, List, [], ◌∷◌, ◌++◌, Option, None, Some}
use Rattle.std.specs.Option.{option_map}
use Rattle.edb_lang.specs.declared.act.ActKind.{ActKind}
use Rattle.edb_lang.specs.declared.act.ActKind.TheVariants as kind
use Rattle.edb_lang.specs.declared.small.Break.{Break}
use Rattle.edb_lang.specs.declared.small.BreakRow.{BreakRow}
use Rattle.edb_frames.specs.declared.mode.Mode.{Mode}
use Rattle.edb_frames.specs.declared.mode.Mode.TheVariants as mode
use Rattle.edb_model.specs.Plain.{Plain}
use Rattle.edb_model.specs.Procs.{with_numbered}
use Rattle.edb_model.specs.Labels.{steps}
use Rattle.edb_event.specs.declared.call.Call.TheVariants as command
use Rattle.edb_event.specs.declared.entry.Cause.{Cause}
use Rattle.edb_event.specs.declared.entry.Cause.TheVariants as cause
use Rattle.edb_event.specs.declared.entry.Entry.{Entry}
use Rattle.edb_event.specs.declared.entry.Entry.TheVariants as entry
use Rattle.edb_event.specs.Weights.{weight_of}
use Rattle.edb_rules.specs.Erasure.{labels_of}
use Rattle.edb_rules.specs.Plans.{Plan}
use Rattle.edb_rules.specs.Facts.{Handout, OwedTrigger, Debuggee, Facts, at_first, unseen, debuggee_at}
use Rattle.edb_rules.specs.Consoles.{consoles_with}
use Rattle.edb_rules.specs.Slices.{row_among, has_init}
use Rattle.edb_rules.specs.SliceEnds.{coming_after}
use Rattle.edb_rules.specs.Replies.{is_accepted}
use Rattle.edb_rules.specs.News.{server_with}
use Rattle.edb_rules.specs.Orders.{order_of, ordered_process, with_order}

-- THE PLAIN STATE makes the steps that the entry stands for.
abbrev pub plain_with : Plan → Plain → Entry → Plain
plain_with plan s e = unwrap_or (steps plan.code s (labels_of e)) s

-- THE TURN is the process's that was given a lease, or that made an act or a step of its pair.
abbrev pub turn_with : ℕ → Entry → ℕ
turn_with t (entry.Lease p b) = p
turn_with t (entry.Ask p k) = p
turn_with t (entry.Did p k v bytes) = p
turn_with t (entry.Took p) = p
turn_with t (entry.Forward p) = p
turn_with t _ = t

-- WHAT IS KNOWN OF A PROCESS. The one of which an entry changes something; 0 if of none.
abbrev pub process_in : Entry → ℕ
process_in (entry.Lease p b) = p
process_in (entry.Ran p n c) = p
process_in (entry.Ask p k) = p
process_in (entry.Did p k v bytes) = p
process_in (entry.Took p) = p
process_in (entry.Forward p) = p
process_in (entry.Enter p m n a) = p
process_in (entry.Leave p) = p
process_in (entry.Stop p m l n by) = p
process_in (entry.Trigger p m l serial a applied) = p
process_in (entry.Signal p (Some r)) = p
process_in (entry.Skip c p) = p
process_in (entry.Kill c p) = p
process_in (entry.Served c x r) = if is_accepted r then ordered_process x else 0
process_in _ = 0

-- What a lease hands out: the budget; the current versions; what the server has now; how the process goes on, by the order
-- that it was given since its last lease, if it was given one; and whether it is interpreted, ever was, and was resumed.
abbrev pub handout_now : Facts → ℕ → Debuggee → Handout
handout_now f budget d =
    record {
      budget = budget;
      versions = f.plain.versions;
      rows = f.server.table.rows;
      modules = f.server.interpreted;
      flags = f.server.flags;
      mode = unwrap_or d.order d.mode;
      is_interpreted = d.is_interpreted;
      was_entered = d.was_entered;
      is_resumed = d.is_resumed;
    }

abbrev pub leased : Facts → ℕ → Debuggee → Debuggee
leased f budget d =
    record d {
      handout = handout_now f budget d;
      is_out = true;
      was_leased_again = d.was_leased_again || (d.is_out && not d.was_crossed);
      was_crossed = false;
      mode = unwrap_or d.order d.mode;
      order = None;
    }

-- the trigger that a stop at a breakpoint owes, with the action of the row that was taken in
abbrev pub owed_for : List ℕ → ℕ → ℕ → Break → OwedTrigger
owed_for m l serial b = record { home = m; line = l; serial = serial; action = b.trigger }

abbrev pub owed_by : List BreakRow → List ℕ → ℕ → Cause → Option OwedTrigger
owed_by rows m l cause.Order = None
owed_by rows m l (cause.Break serial) = option_map (owed_for m l serial) (row_among m l rows)

-- how a process goes on once it comes to interpreted code: by `step` if it does for the first time and the flag `init`
-- was taken in
abbrev pub entering_mode : Debuggee → Mode
entering_mode d = if d.was_entered || not (has_init d.handout.flags) then d.mode else mode.Step

-- what is known of a process that has ended
abbrev pub ended_debuggee : Debuggee → Debuggee
ended_debuggee d = record d { is_interpreted = false; is_stopped = false; is_out = false; asked = None; is_done = false; queue = 0 }

-- an act that its meta asked for is done, and its answer waits; one that waits for a message goes on asking
abbrev pub acted_debuggee : ActKind → Debuggee → Debuggee
acted_debuggee kind.End d = ended_debuggee d
acted_debuggee kind.Wait d = d
acted_debuggee k d = record d { is_done = is_some d.asked }

abbrev pub debuggee_with : Facts → Entry → Debuggee → Debuggee
debuggee_with f (entry.Lease p b) d = leased f b d
debuggee_with f (entry.Ran p n c) d = record d { is_out = false; is_resumed = d.is_resumed && nat_eq n 0 }
debuggee_with f (entry.Ask p k) d = record d { asked = Some k }
debuggee_with f (entry.Did p k v bytes) d = acted_debuggee k d
debuggee_with f (entry.Took p) d = record d { asked = None; is_done = false }
debuggee_with f (entry.Forward p) d = record d { queue = d.queue + 1 }
debuggee_with f (entry.Enter p m n a) d = record d { is_interpreted = true; was_entered = true; queue = 0; mode = entering_mode d }
debuggee_with f (entry.Leave p) d = record d { is_interpreted = false; queue = 0; mode = mode.Run }
debuggee_with f (entry.Stop p m l n by) d = record d { is_stopped = true; is_resumed = true; owed = owed_by d.handout.rows m l by }
debuggee_with f (entry.Trigger p m l serial a applied) d = record d { owed = None }
debuggee_with f (entry.Signal p (Some r)) d = ended_debuggee d
debuggee_with f (entry.Skip c p) d = record d { is_stopped = false; is_resumed = false; order = Some mode.Step }
debuggee_with f (entry.Kill c p) d = ended_debuggee d
debuggee_with f (entry.Served c x r) d = with_order (order_of f.plain x) d
debuggee_with f _ d = d

-- A load is behind every lease that was given before it.
abbrev pub crossed : Debuggee → Debuggee
crossed d = record d { was_crossed = true }

-- A process that an entry makes is not known yet: a start makes one, and a spawn that is no refusal.
abbrev pub grown : ℕ → List Debuggee → List Debuggee
grown n ds = if nat_lt (length ds) n then ds ++ unseen ∷ [] else ds

abbrev pub with_spawned : ActKind → ℕ → List Debuggee → List Debuggee
with_spawned kind.Spawn n ds = grown n ds
with_spawned _ n ds = ds

-- what is known of one process, with what an entry changes of it
abbrev pub with_changed : Facts → Entry → List Debuggee
with_changed f e = with_numbered f.debuggees (process_in e) (debuggee_with f e (debuggee_at f (process_in e)))

abbrev pub debuggees_with : Plan → Facts → Entry → List Debuggee
debuggees_with plan f (entry.Start c p m n args) = f.debuggees ++ unseen ∷ []
debuggees_with plan f (entry.Load c m v) = map crossed f.debuggees
debuggees_with plan f (entry.Did p k v bytes) =
    with_spawned k (length (plain_with plan f.plain (entry.Did p k v bytes)).running) (with_changed f (entry.Did p k v bytes))
debuggees_with plan f e = with_changed f e

-- WHAT HAS TO STAND NEXT: the end of a slice behind its Ran, entry by entry.
abbrev pub behind_first : List Entry → List Entry
behind_first [] = []
behind_first (e ∷ es) = es

abbrev pub coming_with : Plan → Facts → Entry → List Entry
coming_with plan f (entry.Ran p n c) = coming_after plan f p n
coming_with plan f (entry.Leave p) = behind_first f.coming
coming_with plan f (entry.Enter p m n a) = behind_first f.coming
coming_with plan f (entry.Stop p m l n by) = behind_first f.coming
coming_with plan f _ = f.coming

-- THE END: a console said `quit`.
abbrev pub is_quit : Entry → Bool
is_quit (entry.Served c command.Quit r) = true
is_quit _ = false

-- THE FACTS after an entry.
abbrev pub note : Plan → Facts → Entry → Facts
note plan f e =
    record {
      plain = plain_with plan f.plain e;
      server = server_with f.server f.plain (plain_with plan f.plain e) e;
      debuggees = debuggees_with plan f e;
      consoles = consoles_with f.consoles e;
      turn = turn_with f.turn e;
      coming = coming_with plan f e;
      weight = f.weight + weight_of e;
      has_quit = f.has_quit || is_quit e;
    }

abbrev pub after : Plan → Facts → List Entry → Facts
after plan f [] = f
after plan f (e ∷ es) = after plan (note plan f e) es

-- the facts after a journal
abbrev pub facts : Plan → List Entry → Facts
facts plan journal = after plan (at_first plan) journal
