-- What an answer of the reading of all tokens says.

use Rattle.std.specs.Prelude.{◌≡◌, Option, None, Some, Result, Ok, Err}
use Rattle.edb_parse.specs.declared.unread.Unread.{Unread}
use Rattle.edb_parse.specs.declared.unread.Unread.TheVariants.{Memory, Refused}

-- The answer is the tree, or there is none. Where memory was wanting it says nothing.
abbrev pub GivesAll : {A : Type 0} → Result A Unread → Option A → Type 0
GivesAll (Ok a) read = read ≡ Some a
GivesAll (Err Memory) read = Unit
GivesAll (Err Refused) read = read ≡ None
