-- An entry's line at the front of some bytes, and what a journal's reader does with it.

use Rattle.std.specs.Prelude.{◌≡◌, ℕ, ◌+◌, ◌≤◌, List, ◌++◌, length}
use Rattle.edb_event.specs.declared.entry.Entry.{Entry}
use Rattle.edb_event.specs.Ranges.{IsEntry, most_weight}
use Rattle.edb_event.specs.Weights.{weight_of}
use Rattle.edb_fields.specs.declared.refusal.ReadError.{ReadError}
use Rattle.edb_fields.specs.declared.refusal.ReadError.TheVariants.{Memory, Refused}
use Rattle.edb_journal.specs.Accepted.{most_bytes, IsFault}
use Rattle.edb_journal.specs.Lines.{line}
use Rattle.edb_journal.specs.Wide.{IsWide}
use Rattle.edb_journal_read.specs.declared.journals.JournalError.{JournalError}
use Rattle.edb_journal_read.specs.declared.journals.JournalError.TheVariants as error

-- The bytes begin with the line of this entry, whose fields are in range, and go on with the rest.
pub record IsFirst (bytes : List ℕ) (e : Entry) (rest : List ℕ) : Type 0 where
  pub parts : bytes ≡ line e ++ rest
  pub range : IsEntry e
  pub wide : IsWide e

-- why no entry was read: out of memory, which says nothing of the bytes; or they begin with the line of none
abbrev pub NoneIsFirst : List ℕ → ReadError → Type 0
NoneIsFirst bytes Memory = Unit {0}
NoneIsFirst bytes Refused = (e : Entry) (rest : List ℕ) → IsFirst bytes e rest → ⊥

-- The next entry of a text of so many bytes in all, whose entries so far weigh `heavy`: with it they weigh `more`. Neither the weight
-- nor the bytes up to the rest are too many.
pub record IsNext (total heavy : ℕ) (bytes : List ℕ) (e : Entry) (more : ℕ) (rest : List ℕ) : Type 0 where
  pub first : IsFirst bytes e rest
  pub weighs : more ≡ heavy + weight_of e
  pub light : more ≤ most_weight
  pub size : total ≤ most_bytes + length rest

abbrev pub NoneIsNext : ℕ → ℕ → List ℕ → ReadError → Type 0
NoneIsNext total heavy bytes Memory = Unit {0}
NoneIsNext total heavy bytes Refused = (e : Entry) (more : ℕ) (rest : List ℕ) → IsNext total heavy bytes e more rest → ⊥

-- why no journal was read: out of memory, which says nothing of the bytes; or they are refused at that line
abbrev pub Explains : List ℕ → JournalError → Type 0
Explains bytes error.Memory = Unit {0}
Explains bytes (error.Fault n) = IsFault bytes n

-- what is told where reading stops behind so many entries: the first line is line 1
abbrev pub told : ReadError → ℕ → JournalError
told Memory count = error.Memory
told Refused count = error.Fault (count + 2)
