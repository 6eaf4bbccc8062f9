-- Lists as terms: their cells, one by one.

use Rattle.std.proofs.Common.{◌≡◌, ◌<◌, ◌≤◌, ◌+◌, ℕ, List, [], ◌∷◌, ◌++◌, Bool, true, false, length, refl, ap, sym, arith, cond, Result, Err, Option, Some}
use Rattle.std.proofs.lemmas.Bool.{lt-leb}
use Rattle.std.specs.Option.{option_to_list}
use Rattle.edb_lang.specs.Terms.{Datum, height, is_within, most_high}
use Rattle.edb_lang.specs.ListTerms.{list_of}
use Rattle.edb_lang.specs.declared.term.Limit.{Limit}
use Rattle.edb_lang.specs.Limits.{limited}

-- the last element made a cell first
pub list_of-append : (xs ys : List Datum) (t : Datum) → list_of (xs ++ ys) t ≡ list_of xs (list_of ys t)
list_of-append [] ys t = refl
list_of-append (x ∷ xs) ys t = ap (Datum.cons x) (list_of-append xs ys t)

-- a list is at least as high as it has elements
pub length_le-height : (xs : List Datum) (t : Datum) → length xs ≤ height (list_of xs t)
length_le-height [] t = omega arith
length_le-height (x ∷ xs) t = omega (arith, length_le-height xs t)

-- a list of more elements than any term is high is past the limit
pub long-limited : (xs : List Datum) (t : Datum) → most_high < length xs → Err (record {}) ≡ limited (list_of xs t)
long-limited xs t long = rw (lt-leb (height (list_of xs t)) most_high (omega (arith, length_le-height xs t, long))) refl

-- an element more at the end of those that are left
pub one_cell : (xs ys : List Datum) (o : Option Datum) (h t : Datum) → xs ≡ ys ++ option_to_list o → o ≡ Some h
    → list_of ys (Datum.cons h t) ≡ list_of xs t
one_cell xs ys o h t split is =
    rw (split, is) (sym (list_of-append ys (h ∷ []) t))
