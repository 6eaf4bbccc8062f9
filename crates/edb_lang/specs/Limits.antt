-- The refusal of a term past a limit, and what a walk answers that ends early.

use Rattle.std.specs.Prelude.{◌≡◌, ℕ, ◌<◌, ◌≤◌, ◌⊎◌, cond, Option, MatchOption, Result, Ok, Err}
use Rattle.edb_lang.specs.declared.term.Limit.{Limit}
use Rattle.edb_lang.specs.declared.term.Extent.{Extent}
use Rattle.edb_lang.specs.Terms.{Datum, is_within}

-- the term where it is within the limits
abbrev pub limited : Datum → Result Datum Limit
limited t = cond (is_within t) (Ok t) (Err (record {}))

-- the height and the size where neither is above what is allowed, and else nothing
abbrev pub Walked : ℕ → ℕ → ℕ → ℕ → Option Extent → Type 0
Walked levels room high large answer =
    MatchOption answer ((levels < high) ⊎ (room < large)) (λ e. (e.height ≡ high) × (e.size ≡ large) × (high ≤ levels) × (large ≤ room))
