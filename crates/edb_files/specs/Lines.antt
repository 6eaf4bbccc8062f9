-- The line of a refusal, by what the sink had and has, by the counts of its faults and by its flag.

use Rattle.std.specs.Prelude.{◌≡◌, ℕ, ◌⊎◌, Bool, true, List, Option}
use Rattle.edb_io.specs.Faults.{Rose}
use Rattle.edb_io.specs.Writes.{Appended, AppendedPart}
use Rattle.edb_files.specs.declared.lines.LineWrite.{LineWrite}
use Rattle.edb_files.specs.declared.lines.LineWrite.TheVariants.{Tried, NoMemory}

-- the sink's flag is as it was, or it was set
abbrev pub IsKeptOrSet : Bool → Bool → Type 0
IsKeptOrSet was is = (is ≡ was) ⊎ (is ≡ true)

-- The line was written, and the flag is as it was; or a part of it, and then the count rose and the flag is set.
abbrev pub IsLineWritten : List ℕ → Option (List ℕ) → Option (List ℕ) → ℕ → ℕ → Bool → Bool → Type 0
IsLineWritten line old new before now was is =
    (Appended old new line × (is ≡ was)) ⊎ (AppendedPart old new line × Rose before now × (is ≡ true))

-- How the write of the line goes: it was tried; or it was out of memory, and nothing was written.
abbrev pub TriesLine : List ℕ → Option (List ℕ) → Option (List ℕ) → ℕ → ℕ → Bool → Bool → LineWrite → Type 0
TriesLine line old new before now was is Tried = IsLineWritten line old new before now was is
TriesLine line old new before now was is NoMemory = (new ≡ old) × IsKeptOrSet was is
