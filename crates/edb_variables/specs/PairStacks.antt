-- The bindings of a call that runs, as a stack of pairs: the newest pair first.

use Rattle.std.specs.Prelude.{ℕ, ◌-◌, List, [], ◌∷◌, length, drop, slice_get, reverse, Option, None, Some}
use Rattle.std.specs.Option.{option_map}
use Rattle.std.specs.Ordering.{nat_cmp}
use Rattle.std.specs.Cmp.Lexicographic.{slice_cmp}
use Rattle.edb_lang.specs.declared.term.Captured.{Captured}
use Rattle.edb_lang.specs.Terms.{Datum}
use Rattle.edb_lang.specs.Pairs.{Pairs, by_order}
use Rattle.edb_lang.specs.TermViews.{pairs_of}

-- the pairs, the newest first, and for how many more there is room without taking memory
pub record PairStack : Type 0 where
  pub pairs : Pairs
  pub room : ℕ

-- pairs that stand the newest last, from the newest on
abbrev pub newest_first : List Captured → Pairs
newest_first cs = reverse (pairs_of cs)

-- the oldest of these pairs, so many of them
abbrev pub oldest : ℕ → Pairs → Pairs
oldest m ps = drop (length ps - m) ps

-- the pair at a place, counted from 0 for the oldest, and its value
abbrev pub pair_at : ℕ → Pairs → Option (List ℕ × Datum)
pair_at k ps = slice_get (reverse ps) k

abbrev pub value_at : ℕ → Pairs → Option Datum
value_at k ps = option_map (λ p. p.1) (pair_at k ps)

-- the place of the newest pair of a name: as many pairs as are older
abbrev pub place_bound : List ℕ → Pairs → Option ℕ
place_bound x [] = None
place_bound x (p ∷ ps) = by_order (slice_cmp nat_cmp x p.0) (place_bound x ps) (Some (length ps)) (place_bound x ps)
