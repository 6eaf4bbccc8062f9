-- Where a variable belongs among pairs.

use Rattle.std.specs.Prelude.{◌≡◌, ℕ, ◌≤◌, List, length, Option, MatchOption}
use Rattle.std.specs.List.{insert}
use Rattle.edb_lang.specs.declared.term.Captured.{Captured}
use Rattle.edb_lang.specs.Terms.{Datum}
use Rattle.edb_lang.specs.Pairs.{with_pair}
use Rattle.edb_lang.specs.TermViews.{pairs_of}

-- the place at which a pair of this name, put in, makes `with_pair`; none where the name is there
abbrev pub Placed : List ℕ → List Captured → Option ℕ → Type 0
Placed x cs place =
    MatchOption place ((t : Datum) → with_pair x t (pairs_of cs) ≡ pairs_of cs)
    (λ i. (i ≤ length cs) × ((t : Datum) → pairs_of (insert cs i (record { name = x; value = t })) ≡ with_pair x t (pairs_of cs)))
