-- What stands between two places of a journal.

use Rattle.std.specs.Prelude.{◌≡◌, ℕ, true, ◌<◌, ◌≤◌, List, Some, slice_get}
use Rattle.edb_event.specs.declared.entry.Entry.{Entry}
use Rattle.edb_event.specs.declared.entry.Entry.TheVariants as entry
use Rattle.edb_rules.specs.Replies.{is_accepted}
use Rattle.edb_rules.specs.Halts.{resumed_process}

-- behind place k and before place n stands an entry of this kind
pub record StandsBetween (Is : Entry → Type 0) (journal : List Entry) (k n : ℕ) : Type 0 where
  pub place : ℕ
  pub behind : k < place
  pub before : place < n
  pub what : Entry
  pub stands : slice_get journal place ≡ Some what
  pub is : Is what

-- the entry is a turn of process p: a lease of it, an act that it makes, or a step of its pair
abbrev pub IsTurnOf : ℕ → Entry → Type 0
IsTurnOf p (entry.Lease q b) = q ≡ p
IsTurnOf p (entry.Ask q k) = q ≡ p
IsTurnOf p (entry.Did q k v bytes) = q ≡ p
IsTurnOf p (entry.Took q) = q ≡ p
IsTurnOf p (entry.Forward q) = q ≡ p
IsTurnOf p _ = ⊥

-- a command that lets a stopped process go on is accepted for process p, whether or not it is stopped; or its expression is
-- left out
abbrev pub Resumes : ℕ → Entry → Type 0
Resumes p (entry.Served c x r) = (is_accepted r ≡ true) × (resumed_process x ≡ p)
Resumes p (entry.Skip c q) = q ≡ p
Resumes p _ = ⊥

-- the entry is a slice of process p with a move at least, or its expression is left out
abbrev pub HasMoves : ℕ → Entry → Type 0
HasMoves p (entry.Ran q n c) = (q ≡ p) × (1 ≤ n)
HasMoves p (entry.Skip c q) = q ≡ p
HasMoves p _ = ⊥
