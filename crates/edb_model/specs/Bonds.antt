-- What ties processes to each other: links, monitors, and the signals in flight.

use Rattle.std.specs.Prelude.{ℕ, Bool, if◌then◌else◌, not, ◌==◌, List, [], ◌∷◌, ◌++◌, map}
use Rattle.std.specs.List.{flat_map, filter}
use Rattle.edb_lang.specs.Terms.{Datum}
use Rattle.edb_model.specs.declared.tables.MonitorRow.{MonitorRow}
use Rattle.edb_model.specs.declared.tables.SignalRow.{SignalRow}
use Rattle.edb_model.specs.declared.tables.SignalRow.TheVariants as signal

-- the watcher is told, by a reference, when the target ends
pub record Monitor : Type 0 where
  pub reference : ℕ
  pub watcher : ℕ
  pub target : ℕ

-- The links, each once, the lesser number first, ascending; the monitors, ascending by reference; and the signals in
-- flight, in the order of their delivery.
pub record Bonds : Type 0 where
  pub links : List (ℕ × ℕ)
  pub monitors : List Monitor
  pub signals : List SignalRow

abbrev pub no_bonds : Bonds
no_bonds = record { links = []; monitors = []; signals = [] }

-- the processes that p is linked to, ascending
abbrev pub partners : ℕ → List (ℕ × ℕ) → List ℕ
partners p links = flat_map (λ l. if l.0 == p then l.1 ∷ [] else if l.1 == p then l.0 ∷ [] else []) links

-- the monitors that p made, and all others
abbrev pub made_by : ℕ → List Monitor → List Monitor
made_by p monitors = filter (λ m. m.watcher == p) monitors

abbrev pub not_made_by : ℕ → List Monitor → List Monitor
not_made_by p monitors = filter (λ m. not (m.watcher == p)) monitors

-- the monitors whose target is p
abbrev pub monitors_of : ℕ → List Monitor → List Monitor
monitors_of p monitors = filter (λ m. m.target == p) monitors

abbrev pub monitor_row : Monitor → MonitorRow
monitor_row m = record { reference = m.reference; target = m.target }

-- Process p ends with a reason: the monitors that it made go, also one of itself; then it sends an exit signal to each
-- partner, ascending by number, and a `DOWN` to the watcher of each monitor of it, ascending by reference. The links and
-- these monitors stay until their signals are delivered.
abbrev pub after_exit : ℕ → Datum → Bonds → Bonds
after_exit p reason bonds =
    record bonds {
      monitors = not_made_by p bonds.monitors;
      signals = (bonds.signals ++ map (λ q. signal.Link p q reason) (partners p bonds.links))
          ++ map (λ m. signal.Down m.reference p m.watcher reason) (monitors_of p (not_made_by p bonds.monitors));
    }
