-- What a process goes by: what its last lease handed out.

use Rattle.std.specs.Prelude.{◌≡◌, ℕ, ◌<◌, ◌≤◌, max, List, Some, slice_get, take, unwrap_or}
use Rattle.edb_event.specs.declared.entry.Entry.{Entry}
use Rattle.edb_event.specs.declared.entry.Entry.TheVariants as entry
use Rattle.edb_rules.specs.Plans.{Plan}
use Rattle.edb_rules.specs.Facts.{Handout, debuggee_at}
use Rattle.edb_rules.specs.Notes.{facts}
use Rattle.edb_rules.specs.Between.{StandsBetween}

-- the entry is a lease of process p
abbrev pub IsLeaseOf : ℕ → Entry → Type 0
IsLeaseOf p (entry.Lease q b) = q ≡ p
IsLeaseOf p _ = ⊥

-- the entry is a slice of process p, or a stop of it
abbrev pub GoesBy : ℕ → Entry → Type 0
GoesBy p (entry.Ran q n c) = q ≡ p
GoesBy p (entry.Stop q m l n by) = q ≡ p
GoesBy p _ = ⊥

-- The last lease of process p before place k of a journal stands at place i, and has this budget.
pub record IsLastLease (journal : List Entry) (p k i budget : ℕ) : Type 0 where
  pub before : i < k
  pub stands : slice_get journal i ≡ Some (entry.Lease p budget)
  pub last : StandsBetween (IsLeaseOf p) journal i k → ⊥

-- What was handed out is what there was at the last lease of process p before place k: the lease's budget; and as they
-- were before the lease, the current versions, the server's rows, interpreted modules and flags, and whether the process is
-- interpreted, ever was, and was resumed and made no move since; and it goes on by the order that it was given since the
-- lease before, if it was given one, and else as it did.
pub record TookIn (plan : Plan) (journal : List Entry) (p k : ℕ) (h : Handout) : Type 0 where
  pub place : ℕ
  pub lease : IsLastLease journal p k place h.budget
  pub versions : h.versions ≡ (facts plan (take place journal)).plain.versions
  pub rows : h.rows ≡ (facts plan (take place journal)).server.table.rows
  pub modules : h.modules ≡ (facts plan (take place journal)).server.interpreted
  pub mode : h.mode ≡ unwrap_or (debuggee_at (facts plan (take place journal)) p).order (debuggee_at (facts plan (take place journal)) p).mode
  pub flags : h.flags ≡ (facts plan (take place journal)).server.flags
  pub interpreted : h.is_interpreted ≡ (debuggee_at (facts plan (take place journal)) p).is_interpreted
  pub entered : h.was_entered ≡ (debuggee_at (facts plan (take place journal)) p).was_entered
  pub resumed : h.is_resumed ≡ (debuggee_at (facts plan (take place journal)) p).is_resumed

-- n moves are within the budget of the last lease of process p before place k; one move is always allowed
pub record KeepsBudget (journal : List Entry) (p k n : ℕ) : Type 0 where
  pub place : ℕ
  pub budget : ℕ
  pub lease : IsLastLease journal p k place budget
  pub within : n ≤ max 1 budget
