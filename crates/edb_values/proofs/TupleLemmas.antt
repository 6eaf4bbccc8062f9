-- The elements of a tuple, and their places.

use Rattle.std.proofs.Common.{◌≡◌, ℕ, zero, suc, ◌+◌, ◌-◌, ◌<◌, ◌≤◌, ◌++◌, Bool, true, false, if◌then◌else◌, nat_lt, List, [], ◌∷◌, length, length-drop, set, take, drop, get_or, Option, Some, None, Ok, refl, sym, ap, arith}
use Rattle.std.specs.List.{slice_get}
use Rattle.std.specs.Option.{option_and_then}
use Rattle.std.proofs.lemmas.Bool.{ltb-false, ltb-true}
use Rattle.std.proofs.lemmas.Option.{slice_get-get_or, slice_get_past}
use Rattle.edb_lang.specs.Terms.{Datum, tuple, of_list}
use Rattle.edb_pure.specs.Answers.{badarg, given}
use Rattle.edb_pure.specs.Tuples.{items_of, place_of, element}

-- a tuple has the elements that it was made of
pub items_of_list : (ts : List Datum) → items_of (of_list ts) ≡ ts
items_of_list [] = refl
items_of_list (t ∷ ts) = ap (λ us. t ∷ us) (items_of_list ts)

-- as many elements of a list as it has
take_all : (ts : List Datum) (n : ℕ) → length ts ≤ n → take n ts ≡ ts
take_all [] zero long = refl
take_all [] (suc n) long = refl
take_all (t ∷ ts) zero long = absurd (omega arith)
take_all (t ∷ ts) (suc n) long = ap (λ us. t ∷ us) (take_all ts n (omega arith))

-- what follows so many elements, up to the end
pub take_rest : (n : ℕ) (ts : List Datum) → take (length ts - n) (drop n ts) ≡ drop n ts
take_rest n ts = take_all (drop n ts) (length ts - n) (omega (arith, length-drop n ts))

-- another element in its place
pub set_between : (ts : List Datum) (i : ℕ) (v : Datum) → i < length ts → (take i ts ++ v ∷ []) ++ drop (i + 1) ts ≡ set ts i v
set_between [] i v below = absurd (omega arith)
set_between (t ∷ ts) zero v below = refl
set_between (t ∷ ts) (suc i) v below =
    let next : suc i + 1 ≡ suc (i + 1) = omega arith in
    rw next (ap (λ us. t ∷ us) (set_between ts i v (omega arith)))

-- a place, if it is below a count
abbrev pub below : ℕ → ℕ → Option ℕ
below count k = if nat_lt k count then Some k else None

-- the answer at a place that there is
there : (ts : List Datum) (k i : ℕ) (x : Datum) (b : Bool) → b ≡ nat_lt k (length ts) → Some i ≡ (if b then Some k else None) → x ≡ get_or ts i x
    → Ok x ≡ given (slice_get ts k) Ok
there ts k i x true test place is =
    let found = slice_get-get_or ts k x (ltb-true k (length ts) (sym test)) in
    let same : i ≡ k = cc in
    let item : get_or ts k x ≡ x = rw (sym same) (sym is) in
    rw (found, item) refl
there ts k i x false test place is = absurd cc

-- and at any other one
absent : (ts : List Datum) (k : ℕ) (b : Bool) → b ≡ nat_lt k (length ts) → None ≡ (if b then Some k else None) → badarg ≡ given (slice_get ts k) Ok
absent ts k true test place = absurd cc
absent ts k false test place = rw (slice_get_past ts k (ltb-false k (length ts) (sym test))) refl

-- the answer to a tuple of these elements
pub element_is : (n t : Datum) (ts : List Datum) → t ≡ tuple (of_list ts) → element n t ≡ given (place_of n) (λ k. given (slice_get ts k) Ok)
element_is n t ts is = rw is (ap (λ us. given (place_of n) (λ k. given (slice_get us k) Ok)) (items_of_list ts))

pub element_there : (o : Option ℕ) (ts : List Datum) (i : ℕ) (x : Datum) → Some i ≡ option_and_then (below (length ts)) o → x ≡ get_or ts i x
    → Ok x ≡ given o (λ k. given (slice_get ts k) Ok)
element_there None ts i x place is = absurd cc
element_there (Some k) ts i x place is = there ts k i x (nat_lt k (length ts)) refl place is

pub element_absent : (o : Option ℕ) (ts : List Datum) → None ≡ option_and_then (below (length ts)) o → badarg ≡ given o (λ k. given (slice_get ts k) Ok)
element_absent None ts place = refl
element_absent (Some k) ts place = absent ts k (nat_lt k (length ts)) refl place
