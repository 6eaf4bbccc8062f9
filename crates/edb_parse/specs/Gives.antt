-- What an answer of a reading function says.

use Rattle.std.specs.Prelude.{◌≡◌, List, Option, None, Some, Result, Ok, Err}
use Rattle.edb_grammar.specs.Toks.{Tok}
use Rattle.edb_parse.specs.declared.cursor.Cursor.{Cursor}
use Rattle.edb_parse.specs.declared.unread.Unread.{Unread}
use Rattle.edb_parse.specs.declared.unread.Unread.TheVariants.{Memory, Refused}
use Rattle.edb_parse.specs.Cursors.{toks}

-- The answer, seen by `view`, is what could be read: the tree and the tokens behind it, or nothing. Where memory was
-- wanting it says nothing.
abbrev pub Gives : {X A : Type 0} → (X → A) → Result (X × Cursor) Unread → Option (A × List Tok) → Type 0
Gives view (Ok x) read = read ≡ Some (view x.0, toks x.1)
Gives view (Err Memory) read = Unit
Gives view (Err Refused) read = read ≡ None

-- the tree itself
abbrev pub GivesTree : {A : Type 0} → Result (A × Cursor) Unread → Option (A × List Tok) → Type 0
GivesTree result read = Gives (λ a. a) result read
