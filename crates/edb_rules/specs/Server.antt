-- The interpreter server: all that it has to know to answer consoles by itself.

use Rattle.std.specs.Prelude.{ℕ, Bool, false, ◌&&◌, nat_eq, List, [], ◌∷◌, find, Option, None, is_some}
use Rattle.std.specs.Option.{option_map, option_and_then, option_map_or}
use Rattle.std.specs.List.{list_any}
use Rattle.edb_lang.specs.declared.small.TraceFlag.{TraceFlag}
use Rattle.edb_lang.specs.declared.small.TraceFlag.TheVariants as trace
use Rattle.edb_lang.specs.Syntax.{ModuleTree, FunctionTree, line_of}
use Rattle.edb_lang.specs.TermText.{same_name}
use Rattle.edb_breaks.specs.Table.{Table, empty_table}
use Rattle.edb_model.specs.Lookup.{first_versions, version_beside, version_in, function_in}
use Rattle.edb_model.specs.Procs.{numbered}
use Rattle.edb_event.specs.declared.call.AutoFlag.{AutoFlag}
use Rattle.edb_rules.specs.Seen.{Seen, SeenStop}

-- The modules, and the current version of each; the table of breakpoints; the interpreted modules, in the order in which
-- they came; the flags by which a console is attached by itself, and that console; which frames a console is shown; the
-- processes that a console is attached to, each with that console; what was seen of each process, by number from 1, where it
-- was made; and how many processes were made.
pub record Server : Type 0 where
  pub code : List ModuleTree
  pub current : List (List ℕ × ℕ)
  pub table : Table
  pub interpreted : List (List ℕ)
  pub flags : List AutoFlag
  pub flag_console : ℕ
  pub trace : TraceFlag
  pub attached : List (ℕ × ℕ)
  pub seen : List (Option Seen)
  pub made : ℕ

-- of these modules, before the first entry
abbrev pub first_server : List ModuleTree → Server
first_server code =
    record {
      code = code;
      current = first_versions code;
      table = empty_table;
      interpreted = [];
      flags = [];
      flag_console = 1;
      trace = trace.NoTail;
      attached = [];
      seen = [];
      made = 0;
    }

-- whether a module is among these
abbrev pub is_among : List ℕ → List (List ℕ) → Bool
is_among m ms = list_any (same_name m) ms

-- what was seen of process p, if it was made
abbrev pub seen_at : Server → ℕ → Option Seen
seen_at s p = numbered None s.seen p

abbrev pub is_made : Server → ℕ → Bool
is_made s p = is_some (seen_at s p)

-- whether a meta process interprets it; one that has ended has none
abbrev pub is_interpreted : Server → ℕ → Bool
is_interpreted s p = option_map_or (λ (x : Seen). x.is_interpreted) (seen_at s p) false

-- where it is stopped
abbrev pub stop_at : Server → ℕ → Option SeenStop
stop_at s p = option_and_then (λ (x : Seen). x.stop) (seen_at s p)

-- the text of its reason, once it has ended
abbrev pub reason_at : Server → ℕ → Option (List ℕ)
reason_at s p = option_and_then (λ (x : Seen). x.ended) (seen_at s p)

-- the console that is attached to a process
abbrev pub console_of : ℕ → List (ℕ × ℕ) → Option ℕ
console_of p pairs = option_map (λ a. a.1) (find (λ a. nat_eq a.0 p) pairs)

abbrev pub is_console_of : ℕ → ℕ → List (ℕ × ℕ) → Bool
is_console_of c p pairs = list_any (λ a. nat_eq a.0 p && nat_eq a.1 c) pairs

-- whether some file holds a module
abbrev pub is_held : List ModuleTree → List ℕ → Bool
is_held code m = list_any (λ x. same_name x.name m) code

-- The lines at which a function's clauses begin their bodies, in the current version of its module; none if that has no such
-- function. A function has one clause yet.
abbrev pub clause_lines : Server → List ℕ → List ℕ → ℕ → Option (List ℕ)
clause_lines s m f a = option_map lines (option_and_then function (option_and_then (version_in s.code m) (version_beside m s.current)))
  where
    lines : FunctionTree → List ℕ
    lines g = line_of g.first ∷ []

    function : ModuleTree → Option FunctionTree
    function x = function_in x.functions f a
