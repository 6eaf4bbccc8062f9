-- The texts that are accepted as the text of a journal, and at which line any other is refused.

use Rattle.std.specs.Prelude.{◌≡◌, ℕ, ◌+◌, ◌≤◌, ◌⊎◌, List, [], ◌∷◌, ◌++◌, length}
use Rattle.edb_event.specs.declared.entry.Entry.{Entry}
use Rattle.edb_event.specs.Ranges.{IsJournal}
use Rattle.edb_journal.specs.Lines.{line}
use Rattle.edb_journal.specs.Texts.{first_line, journal_text}
use Rattle.edb_journal.specs.Wide.{AreWide}

-- the most bytes of a journal's text
abbrev pub most_bytes : ℕ
most_bytes = 200_000_000

-- Its entries are in range, and neither heavier nor longer as a text than any may be.
pub record IsAccepted (entries : List Entry) : Type 0 where
  pub journal : IsJournal entries
  pub wide : AreWide entries
  pub size : length (journal_text entries) ≤ most_bytes

-- the bytes are the text of these entries, which are accepted
pub record Reads (bytes : List ℕ) (entries : List Entry) : Type 0 where
  pub text : bytes ≡ journal_text entries
  pub accepted : IsAccepted entries

-- Behind the first line the lines before line n are those of entries that are accepted, something is left, and it begins with no
-- entry's line with which they would be accepted.
pub record RefusedAt (bytes : List ℕ) (n : ℕ) : Type 0 where
  pub front : List Entry
  pub rest : List ℕ
  pub accepted : IsAccepted front
  pub parts : bytes ≡ journal_text front ++ rest
  pub more : rest ≡ [] → ⊥
  pub at : n ≡ length front + 2
  pub refused : (e : Entry) (after : List ℕ) → rest ≡ line e ++ after → IsAccepted (front ++ e ∷ []) → ⊥

-- The line at which a text is refused, counted from 1: the first one where it is missing or another, else the first one with
-- which the text is no longer that of entries which are accepted.
abbrev pub IsFault : List ℕ → ℕ → Type 0
IsFault bytes n = ((n ≡ 1) × ((rest : List ℕ) → bytes ≡ first_line ++ rest → ⊥)) ⊎ RefusedAt bytes n
