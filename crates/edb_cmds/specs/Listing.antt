-- A script of one console: lines that are blank or give a command, with one start among them.

use Rattle.std.specs.Prelude.{◌≡◌, ◌⊎◌, ℕ, ◌+◌, ◌<◌, ◌≤◌, Bool, true, false, List, [], ◌∷◌, ◌++◌, length, count_by}
use Rattle.edb_event.specs.declared.call.Call.{Call}
use Rattle.edb_event.specs.declared.call.Call.TheVariants as call
use Rattle.edb_event.specs.declared.call.Command.{Command}
use Rattle.edb_cmds.specs.CommandLines.{IsBlankLine, IsCommandLine}
use Rattle.edb_cmds.specs.Lines.{lines}
use Rattle.edb_cmds.specs.Script.{line_past, longest_script}

-- each line is blank or gives its command, in order
pub data ReadsLines : List (List ℕ) → List Command → Type 0 where
  none : ReadsLines [] []
  blank : (line : List ℕ) (more : List (List ℕ)) (commands : List Command) → IsBlankLine line
      → ReadsLines more commands → ReadsLines (line ∷ more) commands
  command : (line : List ℕ) (more : List (List ℕ)) (c : Command) (commands : List Command) → IsCommandLine line c
      → ReadsLines more commands → ReadsLines (line ∷ more) (c ∷ commands)

abbrev pub starts_process : Call → Bool
starts_process (call.Start m f args) = true
starts_process _ = false

abbrev pub is_start : Command → Bool
is_start c = starts_process c.call

-- how many starts there are
abbrev pub starts : List Command → ℕ
starts commands = count_by is_start commands

-- the script gives these commands
pub record IsScriptOf (bytes : List ℕ) (commands : List Command) : Type 0 where
  pub short : length bytes ≤ longest_script
  pub read : ReadsLines (lines bytes) commands
  pub one_start : starts commands ≡ 1

-- Behind lines with so many starts comes a bad one: no blank line and no command; a second start; or the
-- text's end, where there is no start.
abbrev pub IsBad : ℕ → List (List ℕ) → Type 0
IsBad before [] = before ≡ 0
IsBad before (line ∷ more) =
    ((IsBlankLine line → ⊥) × ((c : Command) → IsCommandLine line c → ⊥))
    ⊎ ((before ≡ 1) × ((c : Command) × IsCommandLine line c × (is_start c ≡ true)))

-- the first bad line; the line behind the last one, where the text only has no start
pub record IsFirstBad (bytes : List ℕ) (n : ℕ) : Type 0 where
  pub front : List (List ℕ)
  pub rest : List (List ℕ)
  pub commands : List Command
  pub parts : lines bytes ≡ front ++ rest
  pub read : ReadsLines front commands
  pub at_most_one : starts commands ≤ 1
  pub bad : IsBad (starts commands) rest
  pub at : n ≡ length front + 1

-- The line at which a text is refused: its first bad line; in a text that is too long the lesser of that
-- and the line of the first byte past the limit.
abbrev pub IsScriptFault : List ℕ → ℕ → Type 0
IsScriptFault bytes n =
    ((length bytes ≤ longest_script) × IsFirstBad bytes n)
    ⊎ ((longest_script < length bytes) × ((IsFirstBad bytes n × (n ≤ line_past bytes))
    ⊎ ((n ≡ line_past bytes) × ((bad : ℕ) → IsFirstBad bytes bad → line_past bytes ≤ bad))))
