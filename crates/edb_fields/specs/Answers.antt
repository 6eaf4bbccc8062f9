-- What the answer of a reading function says.

use Rattle.std.specs.Prelude.{◌≡◌, Option, None, Some, Result, Ok, Err}
use Rattle.edb_fields.specs.declared.refusal.ReadError.{ReadError}
use Rattle.edb_fields.specs.declared.refusal.ReadError.TheVariants.{Memory, Refused}

-- nothing could be read; out of memory says nothing
abbrev pub Missing : {A : Type 0} → ReadError → Option A → Type 0
Missing Memory read = Unit {0}
Missing Refused read = read ≡ None

-- the answer, seen by `view`, is what could be read
abbrev pub Gives : {X A : Type 0} → (X → A) → Result X ReadError → Option A → Type 0
Gives view (Ok x) read = read ≡ Some (view x)
Gives view (Err e) read = Missing e read
