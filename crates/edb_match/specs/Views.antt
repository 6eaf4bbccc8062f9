-- What contracts see of bindings that are only looked at, and of pairs that are only lent.

use Rattle.std.specs.Prelude.{Bool, if◌then◌else◌, List, [], ◌∷◌, Option, None, Some}
use Rattle.edb_lang.specs.Pairs.{Pairs}
use Rattle.edb_match.specs.Newest.{newest_first}
use Rattle.edb_match.specs.declared.lent.Lent.{Lent}
use Rattle.edb_match.specs.declared.known.Known.{Known}
use Rattle.edb_match.specs.declared.known.Known.TheVariants.{Sorted, Stack}

-- the pairs of bindings that are only looked at
abbrev pub known_pairs : Known → Pairs
known_pairs (Sorted bs) = bs.now
known_pairs (Stack sees hidden) = newest_first sees.now (newest_first hidden.now [])

-- the pairs that are lent, the newest first, in front of others
abbrev pub with_lent : List Lent → Pairs → Pairs
with_lent [] bs = bs
with_lent (l ∷ ls) bs = with_lent ls ((l.name.now, l.value.now) ∷ bs)

-- the bindings that a match leaves, if it does
abbrev pub left : Bool → Pairs → Option Pairs
left ok bs = if ok then Some bs else None
