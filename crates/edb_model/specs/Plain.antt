-- The plain state: all processes and what they share, without a debugger.

use Rattle.std.specs.Prelude.{ℕ, List, [], ◌∷◌, ◌++◌, Option, None, Some}
use Rattle.edb_lang.specs.Terms.{Datum}
use Rattle.edb_lang.specs.Syntax.{ModuleTree}
use Rattle.edb_model.specs.declared.tables.Tables.{Tables}
use Rattle.edb_model.specs.Running.{Run}
use Rattle.edb_model.specs.Lookup.{first_versions}
use Rattle.edb_model.specs.Procs.{Procs, no_procs, numbered, with_numbered, with_member, ended_in, tables_in}

-- What the processes share; what each has to do, by number from 1, which is nothing once it has ended; the current
-- versions; and what was printed.
pub record Plain : Type 0 where
  pub procs : Procs
  pub running : List (Option Run)
  pub versions : List (List ℕ × ℕ)
  pub output : List ℕ

-- at first there is no process, and version 1 of each module is current
abbrev pub opening : List ModuleTree → Plain
opening code = record { procs = no_procs; running = []; versions = first_versions code; output = [] }

-- what process p has to do, and the state in which it does something else
abbrev pub running_at : Plain → ℕ → Option Run
running_at s p = numbered None s.running p

abbrev pub with_running : Plain → ℕ → Option Run → Plain
with_running s p t = record s { running = with_numbered s.running p t }

-- one process more, which does this
abbrev pub with_newborn : Plain → Run → Plain
with_newborn s t = record s { procs = with_member s.procs; running = s.running ++ Some t ∷ [] }

-- THE END OF A PROCESS that lives, whatever ends it: it has no more to do, and what it shared with others is settled.
abbrev pub ended : Plain → ℕ → Datum → Plain
ended s p reason = record (with_running s p None) { procs = ended_in p reason s.procs }

-- what a run leaves to be seen
abbrev pub tables_of : Plain → Tables
tables_of s = tables_in s.procs s.output

abbrev pub no_tables : Tables
no_tables = record { processes = []; names = []; signals = []; clock = 0; output = [] }
