-- What stands directly behind a slice, and whose turn it is, told from a journal's entries.

use Rattle.std.specs.Prelude.{◌≡◌, ◌⊎◌, ℕ, ◌+◌, List, None, Some, slice_get}
use Rattle.std.specs.List.{fold}
use Rattle.edb_event.specs.declared.entry.Entry.{Entry}
use Rattle.edb_event.specs.declared.entry.Entry.TheVariants as entry

-- behind place k stands this entry next, or the journal ends there
abbrev pub StandsNext : List Entry → ℕ → Entry → Type 0
StandsNext journal k e = (slice_get journal (k + 1) ≡ None) ⊎ (slice_get journal (k + 1) ≡ Some e)

-- behind place k stand these two, one behind the other, as far as the journal goes
abbrev pub StandNext : List Entry → ℕ → Entry → Entry → Type 0
StandNext journal k d e = (slice_get journal (k + 1) ≡ None) ⊎ ((slice_get journal (k + 1) ≡ Some d) × StandsNext journal (k + 1) e)

-- the process of the last lease, act, or step of a pair; 0 at first
abbrev pub turn_by : ℕ → Entry → ℕ
turn_by p (entry.Lease q b) = q
turn_by p (entry.Ask q k) = q
turn_by p (entry.Did q k v bytes) = q
turn_by p (entry.Took q) = q
turn_by p (entry.Forward q) = q
turn_by p _ = p

abbrev pub last_turn : List Entry → ℕ
last_turn journal = fold turn_by 0 journal
