-- Keys: lists of tuples, of which the element at a position is the key. A term that is no tuple, or has no such
-- position, has no key.

use Rattle.std.specs.Prelude.{ℕ, Bool, false, List, map, is_some, set, remove, slice_get, position, unwrap_or, Option, Ok}
use Rattle.std.specs.List.{push}
use Rattle.std.specs.Option.{option_and_then, option_map, option_map_or}
use Rattle.edb_lang.specs.Terms.{Datum}
use Rattle.edb_lang.specs.ListTerms.{elements_of}
use Rattle.edb_pure.specs.Answers.{Answer, list_answer, given}
use Rattle.edb_pure.specs.Truths.{truth, truth_answer, same_term}
use Rattle.edb_pure.specs.Tuples.{tuple_items, place_of}
use Rattle.edb_pure.specs.Sorting.{sorted, is_below}
use Rattle.edb_pure.specs.Lists.{each}

-- the key of a term
abbrev pub key_of : ℕ → Datum → Option Datum
key_of i t = option_and_then (λ ts. slice_get ts i) (tuple_items t)

-- whether this is the key of a term
abbrev pub has_key : Datum → ℕ → Datum → Bool
has_key key i t = option_map_or (same_term key) (key_of i t) false

-- the answer to the elements of a list, and to the place of the first that has the key
abbrev pub by_key : (List Datum → Option ℕ → Answer) → Datum → Datum → Datum → Answer
by_key f key n t = given (place_of n) (λ i. given (elements_of t) (λ ts. f ts (position (has_key key i) ts)))

-- the tuple, or `false`
abbrev pub keyfind : Datum → Datum → Datum → Answer
keyfind = by_key (λ ts at. Ok (unwrap_or (option_and_then (slice_get ts) at) (truth false)))

-- whether there is one
abbrev pub keymember : Datum → Datum → Datum → Answer
keymember = by_key (λ ts at. truth_answer (is_some at))

-- the elements without it
abbrev pub keydelete : Datum → Datum → Datum → Answer
keydelete = by_key (λ ts at. list_answer (unwrap_or (option_map (remove ts) at) ts))

-- the elements with another one at the place, or else these
abbrev pub with_item : Option ℕ → Datum → List Datum → List Datum → List Datum
with_item at t ts others = unwrap_or (option_map (λ i. set ts i t) at) others

-- The first tuple that has the key makes room for another tuple; without one the list stays.
abbrev pub keyreplace : Datum → Datum → Datum → Datum → Answer
keyreplace key n t new = given (tuple_items new) (λ _. by_key (λ ts at. list_answer (with_item at new ts ts)) key n t)

-- the same, but the tuple comes last if no element has the key
abbrev pub keystore : Datum → Datum → Datum → Datum → Answer
keystore key n t new = given (tuple_items new) (λ _. by_key (λ ts at. list_answer (with_item at new ts (push ts new))) key n t)

-- an element before another one, if its key is below
abbrev pub is_key_below : Datum × Datum → Datum × Datum → Bool
is_key_below a b = is_below a.0 b.0

-- in order of the keys, which all elements have
abbrev pub keysort : Datum → Datum → Answer
keysort n t =
    given (place_of n)
    (λ i. given (option_and_then (each (λ u. option_map (λ k. (k, u)) (key_of i u))) (elements_of t))
    (λ ks. list_answer (map (λ p. p.1) (sorted is_key_below ks))))
