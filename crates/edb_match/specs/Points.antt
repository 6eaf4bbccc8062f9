-- A list that begins with a code point.

use Rattle.std.specs.Prelude.{ℕ, pos, if◌then◌else◌, Option, None, Some}
use Rattle.edb_lang.specs.Terms.{Datum, int, cons}
use Rattle.edb_pure.specs.Truths.{same_term}

-- what is behind the first element, if that is this code point
abbrev pub behind_point : ℕ → Datum → Option Datum
behind_point c (cons h t) = if same_term (int (pos c)) h then Some t else None
behind_point c _ = None
