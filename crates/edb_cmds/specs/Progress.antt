-- How far a reader of the lines has come.

use Rattle.std.specs.Prelude.{◌≡◌, ◌≢◌, ◌⊎◌, ℕ, ◌+◌, ◌<◌, ◌≤◌, Bool, cond, List, [], ◌∷◌, ◌++◌, length}
use Rattle.edb_scan.specs.Parting.{line_after}
use Rattle.edb_event.specs.declared.call.Command.{Command}
use Rattle.edb_cmds.specs.CommandLines.{IsBlankLine, IsCommandLine}
use Rattle.edb_cmds.specs.Lines.{lines}
use Rattle.edb_cmds.specs.Listing.{ReadsLines, starts}
use Rattle.edb_cmds.specs.Script.{longest_script}

-- the commands of a further line: the same, or one more
abbrev pub GoesOn : List Command → List ℕ → List Command → Type 0
GoesOn old line new = (IsBlankLine line × (new ≡ old)) ⊎ ((c : Command) × IsCommandLine line c × (new ≡ old ++ (c ∷ [])))

-- so many starts: one or none
abbrev pub Counts : Bool → List Command → Type 0
Counts started commands = starts commands ≡ cond started 1 0

-- the lines before the rest give these commands, and the next one has this number
pub record HasRead (bytes rest : List ℕ) (commands : List Command) (n : ℕ) : Type 0 where
  pub front : List (List ℕ)
  pub parts : lines bytes ≡ front ++ lines rest
  pub read : ReadsLines front commands
  pub at : n ≡ length front + 1
  pub before : List ℕ
  pub cut : bytes ≡ before ++ rest
  pub line : rest ≢ [] → line_after before ≡ n
  pub number : n + length rest ≤ length bytes + 1
  pub within : longest_script < length bytes → length before ≤ longest_script
