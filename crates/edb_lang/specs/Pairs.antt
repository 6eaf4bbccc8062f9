-- Bindings: pairs of a variable's name and its value, the names ascending and distinct.

use Rattle.std.specs.Prelude.{◌≡◌, ℕ, List, [], ◌∷◌, Option, None, Some}
use Rattle.std.specs.declared.cmp.Ordering.{Ordering}
use Rattle.std.specs.declared.cmp.Ordering.TheVariants.{Less, Equal, Greater}
use Rattle.std.specs.Ordering.{nat_cmp}
use Rattle.std.specs.Cmp.Lexicographic.{slice_cmp}
use Rattle.edb_lang.specs.Terms.{Datum, Captures, uncaptured, captured}

abbrev pub Pairs : Type 0
Pairs = List (List ℕ × Datum)

-- the value that belongs to an order of two names
abbrev pub by_order : {A : Type 0} → Ordering → A → A → A → A
by_order Less a b c = a
by_order Equal a b c = b
by_order Greater a b c = c

-- the value of a name, where it has one
abbrev pub bound : List ℕ → Pairs → Option Datum
bound x [] = None
bound x (p ∷ ps) = by_order (slice_cmp nat_cmp x p.0) (bound x ps) (Some p.1) (bound x ps)

-- the pairs with one more at its place; as they are where the name is there already
abbrev pub with_pair : List ℕ → Datum → Pairs → Pairs
with_pair x t [] = (x, t) ∷ []
with_pair x t (p ∷ ps) = by_order (slice_cmp nat_cmp x p.0) ((x, t) ∷ (p ∷ ps)) (p ∷ ps) (p ∷ with_pair x t ps)

-- each name is below those behind it
abbrev pub Ascends : Pairs → Type 0
Ascends [] = Unit {0}
Ascends (p ∷ []) = Unit {0}
Ascends (p ∷ (q ∷ ps)) = (slice_cmp nat_cmp p.0 q.0 ≡ Less) × Ascends (q ∷ ps)

-- the pairs in a fun's own form
abbrev pub captures_of : Pairs → Captures
captures_of [] = uncaptured
captures_of (p ∷ ps) = captured p.0 p.1 (captures_of ps)

-- the pairs with others, one by one
abbrev pub with_pairs : Pairs → Pairs → Pairs
with_pairs [] qs = qs
with_pairs (p ∷ ps) qs = with_pairs ps (with_pair p.0 p.1 qs)

-- the bindings made of any pairs: of each name the first pair counts
abbrev pub bindings_of : Pairs → Pairs
bindings_of ps = with_pairs ps []
