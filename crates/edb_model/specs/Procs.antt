-- What the processes of a run share: of each its mailbox, flag, deadline and reason; the registered names, the bonds, the
-- clock, and how many references were made.

use Rattle.std.specs.Prelude.{ℕ, zero, suc, ◌+◌, Bool, false, not, ◌&&◌, ◌==◌, nat_le, List, [], ◌∷◌, ◌++◌, length, Option, None, Some, is_none, map, slice_index_or, slice_set}
use Rattle.std.specs.List.{filter}
use Rattle.edb_lang.specs.Terms.{Datum}
use Rattle.edb_model.specs.declared.tables.NameRow.{NameRow}
use Rattle.edb_model.specs.declared.tables.ProcRow.{ProcRow}
use Rattle.edb_model.specs.declared.tables.Tables.{Tables}
use Rattle.edb_model.specs.Bonds.{Bonds, no_bonds, partners, made_by, monitor_row, after_exit}

-- What is at a number, counted from 1, of a list; `d` if nothing is. And the list with something else there.
abbrev pub numbered : {A : Type 0} → A → List A → ℕ → A
numbered d xs zero = d
numbered d xs (suc n) = slice_index_or xs n d

abbrev pub with_numbered : {A : Type 0} → List A → ℕ → A → List A
with_numbered xs zero x = xs
with_numbered xs (suc n) x = slice_set xs n x

-- A process beside what it has to do: its mailbox, whether it traps exits, its deadline, and its reason, once it has
-- ended.
pub record Member : Type 0 where
  pub mailbox : List Datum
  pub trap : Bool
  pub deadline : Option ℕ
  pub exit : Option Datum

-- one that was just made, and what stands for a number that no process has
abbrev pub new_member : Member
new_member = record { mailbox = []; trap = false; deadline = None; exit = None }

-- Processes by number from 1; names by their bytes; links, monitors and signals; the clock in milliseconds; and how
-- many references were made.
pub record Procs : Type 0 where
  pub members : List Member
  pub names : List NameRow
  pub bonds : Bonds
  pub clock : ℕ
  pub references : ℕ

abbrev pub no_procs : Procs
no_procs = record { members = []; names = []; bonds = no_bonds; clock = 0; references = 0 }

-- at most so many processes are ever made
abbrev pub most_processes : ℕ
most_processes = 65536

-- whether process p was made and has not ended
abbrev pub lives : Procs → ℕ → Bool
lives procs p = nat_le 1 p && (nat_le p (length procs.members) && is_none (numbered new_member procs.members p).exit)

-- with one process more
abbrev pub with_member : Procs → Procs
with_member procs = record procs { members = procs.members ++ new_member ∷ [] }

-- a process that has ended: its mailbox and its deadline go, and its reason is kept; whether it traps exits stays
abbrev pub ended_member : Datum → Member → Member
ended_member reason m = record m { mailbox = []; deadline = None; exit = Some reason }

-- Process p, which lives, ends with a reason: its registered name goes, and its bonds are settled.
abbrev pub ended_in : ℕ → Datum → Procs → Procs
ended_in p reason procs =
    record procs {
      members = with_numbered procs.members p (ended_member reason (numbered new_member procs.members p));
      names = filter (λ r. not (r.pid == p)) procs.names;
      bonds = after_exit p reason procs.bonds;
    }

-- the rows that show the processes, numbered from n on
abbrev pub process_rows : Bonds → ℕ → List Member → List ProcRow
process_rows bonds n [] = []
process_rows bonds n (m ∷ ms) =
    record {
      pid = n;
      mailbox = m.mailbox;
      links = partners n bonds.links;
      monitors = map monitor_row (made_by n bonds.monitors);
      trap = m.trap;
      deadline = m.deadline;
      exit = m.exit;
    }
    ∷ process_rows bonds (n + 1) ms

-- all that the processes share, and what was printed, as it is shown
abbrev pub tables_in : Procs → List ℕ → Tables
tables_in procs output =
    record {
      processes = process_rows procs.bonds 1 procs.members;
      names = procs.names;
      signals = procs.bonds.signals;
      clock = procs.clock;
      output = output;
    }
