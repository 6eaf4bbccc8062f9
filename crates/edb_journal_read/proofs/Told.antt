-- What a reader's answer tells, since a text is read once.

use Rattle.std.proofs.Common.{inl, inr, ◌≡◌, ℕ, ◌⊎◌, List, Result, Ok, Err, IfOk, IfErr, refl, ap}
use Rattle.std.specs.Prelude.{MatchResult}
use Rattle.edb_event.specs.Books.{Book}
use Rattle.edb_event.specs.declared.entry.Entry.{Entry}
use Rattle.edb_journal.specs.Accepted.{Reads, IsFault}
use Rattle.edb_journal_read.specs.Entries.{Explains}
use Rattle.edb_journal_read.specs.declared.journals.JournalError.{JournalError}
use Rattle.edb_journal_read.specs.declared.journals.JournalError.TheVariants.{Memory, Fault}
use Rattle.edb_journal_read.proofs.Parting.{one_journal, read_or_refused, one_fault}

pub only_told : (bytes : List ℕ) (es : List Entry) → Reads bytes es → (r : Result Book JournalError) → IfOk r (λ j. Reads bytes j.entries) → IfErr r (λ e. Explains bytes e)
    → MatchResult r (λ j. j.entries ≡ es) (λ e. e ≡ Memory)
only_told bytes es reads (Ok j) found fault = one_journal bytes j.entries es found reads
only_told bytes es reads (Err Memory) found fault = refl
only_told bytes es reads (Err (Fault n)) found fault = absurd (read_or_refused bytes es n reads fault)

pub each_told : (bytes : List ℕ) (n : ℕ) → IsFault bytes n → (r : Result Book JournalError) → IfOk r (λ j. Reads bytes j.entries) → IfErr r (λ e. Explains bytes e)
    → MatchResult r (λ _. ⊥) (λ e. (e ≡ Memory) ⊎ (e ≡ Fault n))
each_told bytes n is (Ok j) found fault = read_or_refused bytes j.entries n found is
each_told bytes n is (Err Memory) found fault = inl refl
each_told bytes n is (Err (Fault m)) found fault = inr (ap Fault (one_fault bytes m n fault is))
