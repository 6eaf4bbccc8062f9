-- The numbers of options.

use Rattle.std.specs.Prelude.{ℕ, Option, Some, None}
use Rattle.edb_files.specs.Numbers.{number_in}
use Rattle.edb_options.specs.Words.{Text, Kind, Hands, Slice, Moves}

-- There is one hand, a slice is of 1 to 4,096 pure moves, and a journal is over at a weight of 1 to 1,000,000.
abbrev pub number_of : Kind → Text → Option ℕ
number_of Hands value = number_in 1 1 value
number_of Slice value = number_in 1 4096 value
number_of Moves value = number_in 1 1000000 value

-- an option is given once
abbrev pub once : Option ℕ → Option ℕ → Option ℕ
once None number = number
once (Some before) number = None
