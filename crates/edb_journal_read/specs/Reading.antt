-- The lines of entries, read loosely: a word, its fields and the line's end. What was read is then written again and compared.

use Rattle.std.specs.Prelude.{ℕ, ◌-◌, ◌^◌, Bool, true, false, if◌then◌else◌, ◌==◌, List, Option, None, Some, codes}
use Rattle.edb_event.specs.declared.call.Call.{Call}
use Rattle.edb_event.specs.declared.call.Call.TheVariants as call
use Rattle.edb_event.specs.declared.entry.Cause.{Cause}
use Rattle.edb_event.specs.declared.entry.Cause.TheVariants as cause
use Rattle.edb_event.specs.declared.entry.Entry.{Entry}
use Rattle.edb_event.specs.declared.entry.Entry.TheVariants as entry
use Rattle.edb_event.specs.declared.reply.Reply.{Reply}
use Rattle.edb_event.specs.declared.reply.Reply.TheVariants as reply
use Rattle.edb_fields.specs.Atoms.{name_at}
use Rattle.edb_fields.specs.Chain.{◌>>=◌}
use Rattle.edb_fields.specs.Hexadecimal.{bytes_at}
use Rattle.edb_fields.specs.Numerals.{number_at}
use Rattle.edb_fields.specs.Reading.{line_end_at, after_text}
use Rattle.edb_fields.specs.TermReading.{args_at}
use Rattle.edb_journal.specs.Lines.{line}
use Rattle.edb_served.specs.Answers.{reply_at}
use Rattle.edb_served.specs.Calls.{call_at}
use Rattle.edb_served.specs.Small.{kind_at, action_at}
use Rattle.edb_served.specs.Words.{word_at, split_at_end, same}

abbrev pub FoundEntry : Type 0
FoundEntry = Option (Entry × List ℕ)

-- numbers of 32, 64 and 128 bits
abbrev pub short_at : List ℕ → Option (ℕ × List ℕ)
short_at = number_at 0 (2 ^ 32 - 1)

abbrev pub long_at : List ℕ → Option (ℕ × List ℕ)
long_at = number_at 0 (2 ^ 64 - 1)

abbrev pub serial_at : List ℕ → Option (ℕ × List ℕ)
serial_at = number_at 0 (2 ^ 128 - 1)

abbrev pub console_at : List ℕ → Option (ℕ × List ℕ)
console_at = number_at 1 8

-- a value, and the line's end
abbrev pub closed : {A : Type 0} → A → List ℕ → Option (A × List ℕ)
closed a bytes = line_end_at bytes >>= (λ rest. Some (a, rest))

abbrev pub start_at : List ℕ → FoundEntry
start_at bytes = do
  (c, rest) ← console_at bytes
  (p, rest) ← short_at rest
  (m, rest) ← name_at rest
  (f, rest) ← name_at rest
  (args, rest) ← args_at rest
  closed (entry.Start c p m f args) rest

abbrev pub load_at : List ℕ → FoundEntry
load_at bytes = do
  (c, rest) ← console_at bytes
  (m, rest) ← name_at rest
  (v, rest) ← short_at rest
  closed (entry.Load c m v) rest

abbrev pub lease_at : List ℕ → FoundEntry
lease_at bytes = do
  (p, rest) ← short_at bytes
  (budget, rest) ← short_at rest
  closed (entry.Lease p budget) rest

abbrev pub ran_at : List ℕ → FoundEntry
ran_at bytes = do
  (p, rest) ← short_at bytes
  (moves, rest) ← short_at rest
  (cond, rest) ← short_at rest
  closed (entry.Ran p moves cond) rest

abbrev pub ask_at : List ℕ → FoundEntry
ask_at bytes = do
  (p, rest) ← short_at bytes
  (k, rest) ← kind_at rest
  closed (entry.Ask p k) rest

abbrev pub did_at : List ℕ → FoundEntry
did_at bytes = do
  (p, rest) ← short_at bytes
  (k, rest) ← kind_at rest
  (value, rest) ← bytes_at rest
  (printed, rest) ← bytes_at rest
  closed (entry.Did p k value printed) rest

abbrev pub took_at : List ℕ → FoundEntry
took_at bytes = short_at bytes >>= (λ x. closed (entry.Took x.0) x.1)

abbrev pub forward_at : List ℕ → FoundEntry
forward_at bytes = short_at bytes >>= (λ x. closed (entry.Forward x.0) x.1)

abbrev pub leave_at : List ℕ → FoundEntry
leave_at bytes = short_at bytes >>= (λ x. closed (entry.Leave x.0) x.1)

abbrev pub enter_at : List ℕ → FoundEntry
enter_at bytes = do
  (p, rest) ← short_at bytes
  (m, rest) ← name_at rest
  (f, rest) ← name_at rest
  (arity, rest) ← short_at rest
  closed (entry.Enter p m f arity) rest

abbrev pub ended_or : Option (List ℕ) → List ℕ → Option (Option (List ℕ) × List ℕ)
ended_or (Some rest) bytes = Some (None, rest)
ended_or None bytes = bytes_at bytes >>= (λ x. closed (Some x.0) x.1)

-- the reason, if the line goes on
abbrev pub ended_at : List ℕ → Option (Option (List ℕ) × List ℕ)
ended_at bytes = ended_or (line_end_at bytes) bytes

abbrev pub signal_at : List ℕ → FoundEntry
signal_at bytes = do
  (p, rest) ← short_at bytes
  (ended, rest) ← ended_at rest
  Some (entry.Signal p ended, rest)

abbrev pub advance_at : List ℕ → FoundEntry
advance_at bytes = long_at bytes >>= (λ x. closed (entry.Advance x.0) x.1)

abbrev pub serial_cause_at : List ℕ → Option (Cause × List ℕ)
serial_cause_at bytes = serial_at bytes >>= (λ x. Some (cause.Break x.0, x.1))

-- why a process stopped
abbrev pub cause_at : List ℕ → Option (Cause × List ℕ)
cause_at bytes =
    word_at bytes >>= (λ x. if same x.0 (codes "order") then Some (cause.Order, x.1) else if same x.0 (codes "break") then serial_cause_at x.1 else None)

abbrev pub stop_at : List ℕ → FoundEntry
stop_at bytes = do
  (p, rest) ← short_at bytes
  (m, rest) ← name_at rest
  (l, rest) ← short_at rest
  (n, rest) ← long_at rest
  (by, rest) ← cause_at rest
  closed (entry.Stop p m l n by) rest

-- whether a trigger was applied
abbrev pub applied_at : List ℕ → Option (Bool × List ℕ)
applied_at bytes = number_at 0 1 bytes >>= (λ x. Some (x.0 == 1, x.1))

abbrev pub trigger_at : List ℕ → FoundEntry
trigger_at bytes = do
  (p, rest) ← short_at bytes
  (m, rest) ← name_at rest
  (l, rest) ← short_at rest
  (serial, rest) ← serial_at rest
  (action, rest) ← action_at rest
  (applied, rest) ← applied_at rest
  closed (entry.Trigger p m l serial action applied) rest

-- whether a command may be answered so: one that has an entry of its own where it is accepted is refused
abbrev pub is_refused : Reply → Bool
is_refused (reply.Refused why) = true
is_refused _ = false

abbrev pub may_answer : Call → Reply → Bool
may_answer (call.Start m f args) r = is_refused r
may_answer (call.Load m v) r = is_refused r
may_answer _ r = true

-- the reply to a command, after the equals sign and up to the line's end
abbrev pub answer_at : Call → List ℕ → Option (Reply × List ℕ)
answer_at x bytes = do
  rest ← after_text (codes " =") bytes
  (r, rest) ← reply_at rest
  rest ← line_end_at rest
  if may_answer x r then Some (r, rest) else None

abbrev pub served_at : List ℕ → FoundEntry
served_at bytes = do
  (c, rest) ← console_at bytes
  (x, rest) ← call_at rest
  (r, rest) ← answer_at x rest
  Some (entry.Served c x r, rest)

-- the entries that are fewer
abbrev pub other_entry_of : List ℕ → List ℕ → FoundEntry
other_entry_of word bytes =
    if same word (codes "signal") then signal_at bytes else if same word (codes "advance") then advance_at bytes
    else if same word (codes "enter") then enter_at bytes else if same word (codes "stop") then stop_at bytes
    else if same word (codes "trigger") then trigger_at bytes else if same word (codes "served") then served_at bytes
    else if same word (codes "start") then start_at bytes else if same word (codes "load") then load_at bytes else None

-- an entry whose word was read
abbrev pub entry_of : List ℕ → List ℕ → FoundEntry
entry_of word bytes =
    if same word (codes "lease") then lease_at bytes else if same word (codes "ran") then ran_at bytes
    else if same word (codes "did") then did_at bytes else if same word (codes "ask") then ask_at bytes
    else if same word (codes "took") then took_at bytes else if same word (codes "forward") then forward_at bytes
    else if same word (codes "leave") then leave_at bytes else other_entry_of word bytes

-- an entry, however its line is spelled
unfoldable pub loose_at : List ℕ → FoundEntry
loose_at bytes = entry_of (split_at_end bytes).0 (split_at_end bytes).1

-- an entry whose line comes first, and what comes after it
unfoldable pub entry_at : List ℕ → FoundEntry
entry_at bytes = do
  (e, rest) ← loose_at bytes
  rest ← after_text (line e) bytes
  Some (e, rest)
