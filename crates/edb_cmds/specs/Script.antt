-- The line of a start, `start M F LIST`; the first line of a text, and how long a script may be.

use Rattle.std.specs.Prelude.{◌≡◌, ℕ, ◌+◌, ◌==◌, List, ◌++◌, map, take, replicate, codes, Some}
use Rattle.std.specs.List.{before_first, after_first}
use Rattle.edb_lang.specs.Terms.{IsWithin}
use Rattle.edb_scan.specs.declared.lexeme.Placed.{Placed}
use Rattle.edb_scan.specs.declared.lexeme.Token.TheVariants.{Atom}
use Rattle.edb_scan.specs.Lexis.{Begins, Fits}
use Rattle.edb_scan.specs.Parting.{AreTokens, line_after}
use Rattle.edb_cmds.specs.declared.script.StartCommand.{StartCommand}
use Rattle.edb_cmds.specs.Integers.{ReadsList}

-- so many spaces
abbrev pub spaces : ℕ → List ℕ
spaces n = replicate n 32

-- the text begins with a word that is this atom, bare or in quotes; so many spaces and one follow, and
-- then the rest
pub record BeginsAtom (text name : List ℕ) (gap : ℕ) (rest : List ℕ) : Type 0 where
  pub begins : Begins text (spaces (gap + 1) ++ rest) (Some (Atom name))
  pub fits : Fits (Some (Atom name))

-- A line that is a start: words parted by one or more spaces, and then a literal list of integers within
-- the limits of a term, up to the line's end, where white space and comments may stand as in a module.
pub record IsStart (line : List ℕ) (command : StartCommand) : Type 0 where
  pub before : ℕ
  pub start_gap : ℕ
  pub home_gap : ℕ
  pub name_gap : ℕ
  pub from_home : List ℕ
  pub from_name : List ℕ
  pub list_text : List ℕ
  pub cut : line ≡ spaces before ++ (codes "start" ++ (spaces (start_gap + 1) ++ from_home))
  pub home : BeginsAtom from_home command.home home_gap from_name
  pub name : BeginsAtom from_name command.name name_gap list_text
  pub tokens : List Placed
  pub scanned : AreTokens list_text tokens
  pub list : ReadsList (map (λ p. p.token) tokens) command.args
  pub within : IsWithin command.args

-- the byte 10 ends a line, and nothing behind the last one is no line
abbrev pub first_line : List ℕ → List ℕ
first_line bytes = before_first (λ c. c == 10) bytes

abbrev pub other_lines : List ℕ → List ℕ
other_lines bytes = after_first (λ c. c == 10) bytes

-- how many bytes a script may have
abbrev pub longest_script : ℕ
longest_script = 1_000_000

-- the line of the first byte past the limit
abbrev pub line_past : List ℕ → ℕ
line_past bytes = line_after (take longest_script bytes)
