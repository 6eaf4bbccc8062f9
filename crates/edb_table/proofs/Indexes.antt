-- The index of a built-in is its place in its module's table, after the tables before.
use Rattle.std.proofs.Common.{◌≡◌, ℕ, suc, ◌+◌, ◌<◌, Bool, true, false, cond, not, ◌&&◌, ltb, List, [], ◌∷◌, ◌++◌, length, map, Option, Some, None, IfSome, IfNone, Decides, codes, bytes_eq, position, option_map, refl, sym, ap, subst, ◌∙◌, arith}
use Rattle.std.specs.List.{position_or_len}
use Rattle.std.specs.Option.{option_or}
use Rattle.std.proofs.lemmas.Bool.{lt-ltb}
use Rattle.std.proofs.lemmas.Bool.Decides.{nat_tests, Decides-and, Decides-like}
use Rattle.std.proofs.lemmas.Option.{slice_get_within}
use Rattle.std.proofs.lemmas.Slice.Eq.{bytes_eq-Decides}
use Rattle.edb_table.specs.Keys.{Key, same_key, place_of, StandsAt}
use Rattle.edb_table.specs.BuiltIns.{BuiltIn, erlang_keys, int_keys, io_keys, lists_keys, within, built_ins, same_built_in, index_of}
use Rattle.edb_table.proofs.Halving.{same_key-Decides}
use Rattle.edb_table.proofs.Reading.{read_gives, read_none}

module _ {A : Type 0} (p : A → Bool) where
  -- reading goes item by item
  position-cons : (x : A) (xs : List A) → position p (x ∷ xs) ≡ cond (p x) (Some 0) (option_map suc (position p xs))
  position-cons x xs = by (p x) (position_or_len p xs)
    where
      behind : (t : Bool) (n : ℕ) → cond t (Some (1 + n)) None ≡ option_map suc (cond t (Some n) None)
      behind true n = let e : 1 + n ≡ suc n = omega arith in ap Some e
      behind false n = refl

      by : (b : Bool) (n : ℕ) → cond (ltb (cond (not b) (1 + n) 0) (suc (length xs))) (Some (cond (not b) (1 + n) 0)) None ≡ cond b (Some 0) (option_map suc (cond (ltb n (length xs)) (Some n) None))
      by true n = rw (lt-ltb 0 (suc (length xs)) (omega arith)) refl
      by false n =
          let same : ltb (1 + n) (suc (length xs)) ≡ ltb n (length xs) = grind (arith, nat_tests) in
          rw same (behind (ltb n (length xs)) n)

  from_zero : (o : Option ℕ) → o ≡ option_map (λ i. 0 + i) o
  from_zero None = refl
  from_zero (Some i) = let e : i ≡ 0 + i = omega arith in ap Some e

  -- a second list is read if the first has none
  position-append : (xs ys : List A) → position p (xs ++ ys) ≡ option_or (position p xs) (option_map (λ i. length xs + i) (position p ys))
  position-append [] ys = from_zero (position p ys)
  position-append (x ∷ xs) ys = rw (position-cons x (xs ++ ys), position-append xs ys, position-cons x xs) (by (p x) (position p xs) (position p ys))
    where
      by : (b : Bool) (o q : Option ℕ) → cond b (Some 0) (option_map suc (option_or o (option_map (λ i. length xs + i) q))) ≡ option_or (cond b (Some 0) (option_map suc o)) (option_map (λ i. suc (length xs) + i) q)
      by true o q = refl
      by false (Some i) q = refl
      by false None None = refl
      by false None (Some i) = let e : suc (length xs + i) ≡ suc (length xs) + i = omega arith in ap Some e

position-map : {A B : Type 0} (p : B → Bool) (f : A → B) (xs : List A) → position p (map f xs) ≡ position (λ x. p (f x)) xs
position-map p f [] = refl
position-map p f (x ∷ xs) = position-cons p (f x) (map f xs) ∙ ap (λ o. cond (p (f x)) (Some 0) (option_map suc o)) (position-map p f xs) ∙ sym (position-cons (λ x. p (f x)) x xs)

-- what fails at each is nowhere
position-never : {A : Type 0} (xs : List A) → position (λ (x : A). false) xs ≡ None
position-never [] = refl
position-never (x ∷ xs) = position-cons (λ x. false) x xs ∙ ap (option_map suc) (position-never xs)

-- the place in a table, if it is that of the built-in's module
abbrev place_in : BuiltIn → List ℕ → List Key → Option ℕ
place_in asked home keys = cond (bytes_eq asked.0 home) (place_of asked.1 keys) None

place_in_table : (asked : BuiltIn) (home : List ℕ) (keys : List Key) → position (same_built_in asked) (within home keys) ≡ place_in asked home keys
place_in_table asked home keys = position-map (same_built_in asked) (λ key. (home, key)) keys ∙ by (bytes_eq asked.0 home)
  where
    by : (b : Bool) → position (λ key. b && same_key asked.1 key) keys ≡ cond b (place_of asked.1 keys) None
    by true = refl
    by false = position-never keys

pub same_built_in-Decides : (asked other : BuiltIn) → Decides (same_built_in asked other) (asked ≡ other)
same_built_in-Decides asked other =
    Decides-like (same_built_in asked other) (λ both. λ i. (both.0 i, both.1 i)) (λ e. (ap (λ b. b.0) e, ap (λ b. b.1) e))
    (Decides-and _ _ (bytes_eq-Decides asked.0 other.0) (same_key-Decides asked.1 other.1))

-- what an index tells
pub indexed : (asked : BuiltIn) (result : Option ℕ) → result ≡ index_of asked
    → record { index : result ≡ index_of asked; found : IfSome result (StandsAt asked built_ins); within : IfSome result (λ index. index < 79); none : IfNone result ((k : ℕ) → ¬ (StandsAt asked built_ins k)) }
unfolding erlang_keys int_keys io_keys lists_keys
indexed asked (Some at) e =
    let here = read_gives same_built_in same_built_in-Decides asked built_ins at (sym e) in
    record { index = e; found = here; within = slice_get_within built_ins at asked here; none = tt }
indexed asked None e = record { index = e; found = tt; within = tt; none = read_none same_built_in same_built_in-Decides asked built_ins (sym e) }

-- what was read in the front, or else after so many
abbrev joined : Option ℕ → ℕ → Option ℕ → Option ℕ
joined front before behind = option_or front (option_map (λ i. before + i) behind)

four_tables : (asked : BuiltIn) (a b c d : List ℕ) (ks ls ms ns : List Key)
    → position (same_built_in asked) (within a ks ++ within b ls ++ within c ms ++ within d ns)
    ≡ joined (joined (joined (place_in asked a ks)
    (length (within a ks)) (place_in asked b ls))
    (length (within a ks ++ within b ls)) (place_in asked c ms))
    (length (within a ks ++ within b ls ++ within c ms)) (place_in asked d ns)
four_tables asked a b c d ks ls ms ns =
    let test = same_built_in asked in
    rw (
      position-append test (within a ks ++ within b ls ++ within c ms) (within d ns),
      position-append test (within a ks ++ within b ls) (within c ms),
      position-append test (within a ks) (within b ls),
      place_in_table asked a ks,
      place_in_table asked b ls,
      place_in_table asked c ms,
      place_in_table asked d ns,
    ) refl

or_none : (o : Option ℕ) → option_or o None ≡ o
or_none None = refl
or_none (Some i) = refl

-- the index, as read from the four tables
parts : (asked : BuiltIn) → index_of asked
    ≡ joined (joined (joined (place_in asked (codes "erlang") erlang_keys)
    50 (place_in asked (codes "int") int_keys))
    51 (place_in asked (codes "io") io_keys))
    53 (place_in asked (codes "lists") lists_keys)
unfolding erlang_keys int_keys io_keys lists_keys
parts asked = four_tables asked (codes "erlang") (codes "int") (codes "io") (codes "lists") erlang_keys int_keys io_keys lists_keys

-- other names fail the test
differ : (home other : List ℕ) → (home ≡ other → ⊥) → bytes_eq home other ≡ false
differ home other apart = by (bytes_eq home other) refl
  where
    by : (b : Bool) → bytes_eq home other ≡ b → b ≡ false
    by true e = absurd (apart ((bytes_eq-Decides home other).0 e))
    by false e = refl

-- so in each module the index is the place in its table, after the tables before
module _ (home : List ℕ) (key : Key) where
  pub in_erlang : home ≡ codes "erlang" → index_of (home, key) ≡ place_of key erlang_keys
  in_erlang e = subst (λ (h : List ℕ). index_of (h, key) ≡ place_of key erlang_keys) (sym e)
      (parts (codes "erlang", key) ∙ or_none _ ∙ or_none _ ∙ or_none _)

  pub in_int : home ≡ codes "int" → index_of (home, key) ≡ option_map (λ i. 50 + i) (place_of key int_keys)
  in_int e = subst (λ (h : List ℕ). index_of (h, key) ≡ option_map (λ i. 50 + i) (place_of key int_keys)) (sym e)
      (parts (codes "int", key) ∙ or_none _ ∙ or_none _)

  pub in_io : home ≡ codes "io" → index_of (home, key) ≡ option_map (λ i. 51 + i) (place_of key io_keys)
  in_io e = subst (λ (h : List ℕ). index_of (h, key) ≡ option_map (λ i. 51 + i) (place_of key io_keys)) (sym e)
      (parts (codes "io", key) ∙ or_none _)

  pub in_lists : home ≡ codes "lists" → index_of (home, key) ≡ option_map (λ i. 53 + i) (place_of key lists_keys)
  in_lists e = subst (λ (h : List ℕ). index_of (h, key) ≡ option_map (λ i. 53 + i) (place_of key lists_keys)) (sym e)
      (parts (codes "lists", key))

  -- no other module has built-ins
  pub in_none : (home ≡ codes "erlang" → ⊥) → (home ≡ codes "int" → ⊥) → (home ≡ codes "io" → ⊥) → (home ≡ codes "lists" → ⊥) → index_of (home, key) ≡ None
  in_none erlang int io lists =
      parts (home, key) ∙ rw (differ home (codes "erlang") erlang, differ home (codes "int") int, differ home (codes "io") io, differ home (codes "lists") lists) refl
