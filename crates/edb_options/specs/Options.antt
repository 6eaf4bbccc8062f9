-- What the words of `edb` ask for.

use Rattle.std.specs.Prelude.{◌≤◌, Bool, true, false, ◌&&◌, nat_le, nat_lt, if◌then◌else◌, List, [], length, Option, Some, None, option_and_then, unwrap_or}
use Rattle.edb_options.specs.Words.{Text}
use Rattle.edb_options.specs.Reading.{Place, Open, Waits, Ended, State, read_words, start}
use Rattle.edb_options.specs.declared.request.Options.{Options}

-- the options, and the names as texts: the script's, and then those of the files
pub record Wanted : Type 0 where
  pub options : Options
  pub names : List Text

-- no option waits for its number
abbrev pub is_settled : Place → Bool
is_settled Open = true
is_settled (Waits kind) = false
is_settled Ended = true

-- A slice is of 100 pure moves and a journal over at a weight of 100,000, where the words don't say otherwise.
abbrev pub chosen : State → Options
chosen s = record { slice = unwrap_or s.slice 100; moves = unwrap_or s.moves 100000; journal = s.journal }

-- at the end there are the names of a script and of a file at least
abbrev pub wanted_at : State × List Text → Option Wanted
wanted_at r = if is_settled r.0.place && nat_le 2 (length r.1) then Some (record { options = chosen r.0; names = r.1 }) else None

-- what fewer than 4,294,967,295 words ask for, and nothing where they are refused
abbrev pub options_in : List Text → Option Wanted
options_in words = if nat_lt (length words) 4294967295 then option_and_then wanted_at (read_words start [] words) else None

-- the options are in their ranges
abbrev pub IsRanged : Options → Type 0
IsRanged o = (1 ≤ o.slice) × (o.slice ≤ 4096) × (1 ≤ o.moves) × (o.moves ≤ 1000000)
