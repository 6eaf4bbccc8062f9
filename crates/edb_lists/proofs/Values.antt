-- The elements of a list are read as references: what is done to these is done to their values.

use Rattle.std.proofs.Common.{◌≡◌, ℕ, suc, ◌+◌, ◌-◌, Bool, true, false, cond, List, [], ◌∷◌, ◌++◌, map, reverse, take, drop, set, length, ltb, leb, slice_get, Option, Some, None, Ok, position, is_some, unwrap_or, refl, sym, ap, ◌∙◌, arith, ◌≤◌}
use Prim.Native.Nat.compare
use Rattle.std.specs.List.{last_or, remove, list_any, position_or_len}
use Rattle.std.specs.Option.{option_map}
use Rattle.std.proofs.lemmas.List.{map-append, map-set, take-map, drop-map, take_all}
use Rattle.std.proofs.lemmas.Bool.{lt-ltb}
use Rattle.std.proofs.lemmas.Option.{slice_get-map}
use Rattle.std.proofs.lemmas.List.{length-map}
use mathlib.Core.List.{reverse-cons}
use Rattle.edb_lang.specs.Terms.{Datum, of_list}
use Rattle.edb_pure.specs.Truths.{same_term, truth_answer}
use Rattle.edb_lang.specs.ListTerms.{elements_of}
use Rattle.edb_pure.specs.Answers.{Answer, list_answer, given}
use Rattle.edb_pure.specs.Tuples.{items_of, place_of}
use Rattle.edb_pure.specs.Keys.{has_key, by_key}
use Rattle.edb_pure.specs.Integers.{count_of}
use Rattle.edb_pure.specs.Lists.{without_first, nthtail, member, last}

pub map-take : {X Y : Type 0} (f : X → Y) (n : ℕ) (xs : List X) → map f (take n xs) ≡ take n (map f xs)
map-take f n xs = sym (take-map f n xs)

pub take_every : {X Y : Type 0} (f : X → Y) (n : ℕ) (xs : List X) → length xs ≤ n → take n (map f xs) ≡ map f xs
take_every f n xs long = take_all n (map f xs) (omega (arith, length-map xs f))

pub map-drop : {X Y : Type 0} (f : X → Y) (n : ℕ) (xs : List X) → map f (drop n xs) ≡ drop n (map f xs)
map-drop f n xs = sym (drop-map f n xs)

pub map-reverse : {X Y : Type 0} (f : X → Y) (xs : List X) → map f (reverse xs) ≡ reverse (map f xs)
map-reverse f [] = refl
map-reverse f (x ∷ xs) =
    ap (map f) (reverse-cons x xs)
    ∙ map-append f (reverse xs) (x ∷ [])
    ∙ ap (λ ys. ys ++ f x ∷ []) (map-reverse f xs)
    ∙ sym (reverse-cons (f x) (map f xs))

pub map-remove : {X Y : Type 0} (f : X → Y) (xs : List X) (i : ℕ) → map f (remove xs i) ≡ remove (map f xs) i
map-remove f xs i = map-append f (take i xs) (drop (suc i) xs) ∙ (λ k. map-take f i xs k ++ map-drop f (suc i) xs k)

some_if : (b : Bool) (m n : ℕ) → is_some (cond b (Some m) None) ≡ is_some (cond b (Some n) None)
some_if true m n = refl
some_if false m n = refl

-- whether there is one, and the list without it
pub any_is_first : {X : Type 0} (p : X → Bool) (xs : List X) → list_any p xs ≡ is_some (position p xs)
any_is_first p [] = refl
any_is_first p (x ∷ xs) = by (p x) refl (any_is_first p xs)
  where
    by : (b : Bool) → p x ≡ b → list_any p xs ≡ is_some (position p xs) → list_any p (x ∷ xs) ≡ is_some (position p (x ∷ xs))
    by true e rest = let front : ltb 0 (suc (length xs)) ≡ true = lt-ltb 0 (suc (length xs)) (omega arith) in rw (e, front) refl
    by false e rest =
        let one : 1 + position_or_len p xs ≡ suc (position_or_len p xs) = omega arith in
        rw e (rest ∙ rw (one, compare.suc-suc) (some_if (ltb (position_or_len p xs) (length xs)) (position_or_len p xs) (suc (position_or_len p xs))))

pub without_first_is : (x : Datum) (ts : List Datum) → without_first x ts ≡ unwrap_or (option_map (remove ts) (position (same_term x) ts)) ts
without_first_is x [] = refl
without_first_is x (t ∷ ts) = by (same_term x t) refl (without_first_is x ts)
  where
    n : ℕ
    n = position_or_len (same_term x) ts

    Shown : List Datum → Type 0
    Shown us = without_first x us ≡ unwrap_or (option_map (remove us) (position (same_term x) us)) us

    more : (b : Bool) → unwrap_or (option_map (remove (t ∷ ts)) (cond b (Some (suc n)) None)) (t ∷ ts) ≡ t ∷ unwrap_or (option_map (remove ts) (cond b (Some n) None)) ts
    more true = refl
    more false = refl

    by : (b : Bool) → same_term x t ≡ b → Shown ts → Shown (t ∷ ts)
    by true e rest = let front : ltb 0 (suc (length ts)) ≡ true = lt-ltb 0 (suc (length ts)) (omega arith) in rw (e, front) refl
    by false e rest = rw e (ap (λ us. t ∷ us) rest ∙ sym (more (ltb n (length ts))) ∙ (let one : 1 + n ≡ suc n = omega arith in rw (one, compare.suc-suc) refl))

-- one taken out, or none
pub map_without : {X Y : Type 0} (f : X → Y) (xs : List X) (o : Option ℕ) → map f (unwrap_or (option_map (remove xs) o) xs) ≡ unwrap_or (option_map (remove (map f xs)) o) (map f xs)
map_without f xs None = refl
map_without f xs (Some i) = map-remove f xs i

last_at : {X : Type 0} (x : X) (xs : List X) → last_or (Some x) xs ≡ slice_get (x ∷ xs) (length xs)
last_at x [] = refl
last_at x (y ∷ ys) = last_at y ys

pub last_is_at : {X : Type 0} (xs : List X) → last_or None xs ≡ slice_get xs (length xs - 1)
last_is_at [] = refl
last_is_at (x ∷ xs) =
    let e : length (x ∷ xs) - 1 ≡ length xs = omega arith in
    last_at x xs ∙ ap (slice_get (x ∷ xs)) (sym e)

-- the answers, of the elements that were read
pub nthtail_is : (n t : Datum) (k : ℕ) (ts us : List Datum) → count_of n ≡ Some k → Some ts ≡ elements_of t → leb k (length ts) ≡ true → us ≡ drop k ts → list_answer us ≡ nthtail n t
nthtail_is n t k ts us e f g h = rw (e, ← f, g, h) refl

pub member_is : (x t : Datum) (ts : List Datum) (b : Bool) → Some ts ≡ elements_of t → b ≡ is_some (position (same_term x) ts) → truth_answer b ≡ member x t
member_is x t ts b f e = rw (e, ← f, any_is_first (same_term x) ts) refl

pub last_is : {X : Type 0} (v : X → Datum) (t : Datum) (xs : List X) (o : Option X) → Some (map v xs) ≡ elements_of t → o ≡ slice_get xs (length xs - 1) → given (option_map v o) Ok ≡ last t
last_is v t xs o f e = rw (e, ← f, last_is_at (map v xs), length-map, slice_get-map v xs (length xs - 1)) refl

pub items_are : (ts : List Datum) → items_of (of_list ts) ≡ ts
items_are [] = refl
items_are (t ∷ ts) = ap (λ us. t ∷ us) (items_are ts)

pub by_key_is : (g : List Datum → Option ℕ → Answer) (x n t : Datum) (i : ℕ) (ts : List Datum) (o : Option ℕ) → Some i ≡ place_of n → Some ts ≡ elements_of t → o ≡ position (has_key x i) ts → g ts o ≡ by_key g x n t
by_key_is g x n t i ts o h f e = rw (e, ← h, ← f) refl

pub map_set : {X Y : Type 0} (f : X → Y) (xs : List X) (i : ℕ) (x : X) → map f (set xs i x) ≡ set (map f xs) i (f x)
map_set f xs i x = map-set f xs i x

pub ruleset changes = (map_set, map-append)

pub ruleset values = (map-take, map-drop, map-reverse, map-remove, map-append)

pub ruleset deletions = (map_without, without_first_is)

pub ruleset fronts = (map-take, take_every, length-map)
