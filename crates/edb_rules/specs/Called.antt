-- What a command that isn't refused changes in the server.

use Rattle.std.specs.Prelude.{ℕ, true, if◌then◌else◌, not, ◌&&◌, nat_eq, List, [], ◌∷◌, ◌++◌, map, None, is_some, unwrap_or}
use Rattle.std.specs.Option.{option_map}
use Rattle.std.specs.List.{filter}
use Rattle.edb_lang.specs.declared.small.TraceFlag.{TraceFlag}
use Rattle.edb_lang.specs.declared.small.TraceFlag.TheVariants as trace
use Rattle.edb_lang.specs.TermText.{same_name}
use Rattle.edb_breaks.specs.Table.{is_at, with_row}
use Rattle.edb_model.specs.Procs.{with_numbered}
use Rattle.edb_event.specs.declared.call.Call.{Call}
use Rattle.edb_event.specs.declared.call.Call.TheVariants as command
use Rattle.edb_event.specs.declared.call.TraceWord.{TraceWord}
use Rattle.edb_event.specs.declared.call.TraceWord.TheVariants as word
use Rattle.edb_rules.specs.TableEdits.{with_changed_rows, without_rows, active, inactive, with_trigger, with_condition, is_of, is_at_some, with_lines}
use Rattle.edb_rules.specs.Seen.{Seen}
use Rattle.edb_rules.specs.Server.{Server, is_among, seen_at, reason_at, clause_lines}

-- what was seen of process p, changed, if it was made
abbrev pub with_seen : Server → ℕ → (Seen → Seen) → Server
with_seen s p change = record s { seen = with_numbered s.seen p (option_map change (seen_at s p)) }

-- a module behind the others, where it isn't among them; and none of this name
abbrev pub with_module : List ℕ → List (List ℕ) → List (List ℕ)
with_module m ms = if is_among m ms then ms else ms ++ m ∷ []

abbrev pub without_module : List ℕ → List (List ℕ) → List (List ℕ)
without_module m ms = filter (λ n. not (same_name m n)) ms

-- one that goes on is stopped no more
abbrev pub resumed_seen : Seen → Seen
resumed_seen x = record x { stop = None }

-- What is left of one that has ended once the snapshot is cleared. The attachments to those that have ended go.
abbrev pub cleared_seen : Seen → Seen
cleared_seen x = if is_some x.ended then record x { first = None } else x

abbrev pub cleared : Server → Server
cleared s =
    record s {
      seen = map (option_map cleared_seen) s.seen;
      attached = filter (λ (a : ℕ × ℕ). not (is_some (reason_at s a.0))) s.attached;
    }

-- `all` and `true` mean the same
abbrev pub flag_of : TraceWord → TraceFlag
flag_of word.All = trace.All
flag_of word.True = trace.All
flag_of word.NoTail = trace.NoTail
flag_of word.False = trace.Top

-- WHAT EACH COMMAND of console c CHANGES. A start, a load and the end of a process are told as news, and an await and `quit`
-- change nothing; nor do the commands that show rows. Which order a process was given isn't the server's, but that it is stopped no more.
abbrev pub called : Server → ℕ → Call → Server
called s c (command.Ii m) = record s { interpreted = with_module m s.interpreted }
called s c (command.Iq m) = record s { interpreted = without_module m s.interpreted; table = without_rows (is_of m) s.table }
called s c (command.Ib m l) = record s { table = with_row m l s.table }
called s c (command.IbIn m f a) = record s { table = with_lines m (unwrap_or (clause_lines s m f a) []) s.table }
called s c (command.Ir m l) = record s { table = without_rows (is_at m l) s.table }
called s c (command.IrModule m) = record s { table = without_rows (is_of m) s.table }
called s c command.IrAll = record s { table = without_rows (λ r. true) s.table }
called s c (command.IrIn m f a) = record s { table = without_rows (is_at_some m (unwrap_or (clause_lines s m f a) [])) s.table }
called s c (command.Ibd m l) = record s { table = with_changed_rows (is_at m l) inactive s.table }
called s c (command.Ibe m l) = record s { table = with_changed_rows (is_at m l) active s.table }
called s c (command.Iba m l a) = record s { table = with_changed_rows (is_at m l) (with_trigger a) s.table }
called s c (command.Ibc m l condition) = record s { table = with_changed_rows (is_at m l) (with_condition condition) s.table }
called s c command.Ic = cleared s
called s c (command.Iaa flags) = record s { flags = flags; flag_console = c }
called s c (command.Ist w) = record s { trace = flag_of w }
called s c (command.Ia p) = record s { attached = s.attached ++ (p, c) ∷ [] }
called s c (command.Detach p) = record s { attached = filter (λ (a : ℕ × ℕ). not (nat_eq a.0 p && nat_eq a.1 c)) s.attached }
called s c (command.Step p) = with_seen s p resumed_seen
called s c (command.Next p) = with_seen s p resumed_seen
called s c (command.Finish p) = with_seen s p resumed_seen
called s c (command.Continue p) = with_seen s p resumed_seen
called s c (command.Skip p) = with_seen s p resumed_seen
called s c _ = s
