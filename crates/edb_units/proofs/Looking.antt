-- A search that halves among elements in the order of their keys.

use Rattle.std.proofs.Common.{◌≡◌, ℕ, zero, suc, ◌+◌, ◌<◌, ◌≤◌, Bool, true, false, cond, List, [], ◌∷◌, map, drop, length, get_or, slice_get, Option, Some, None, refl, sym, ap, ◌∙◌, arith, true≢false}
use Rattle.std.specs.declared.cmp.Ordering.{Ordering}
use Rattle.std.specs.declared.cmp.Ordering.TheVariants.{Less, Equal, Greater}
use Rattle.std.specs.Ordering.{is_lt, is_eq, ordering_reverse}
use Rattle.std.specs.Cmp.{IsTotalOrder}
use Rattle.std.specs.List.{filter, AllWithin}
use Rattle.std.specs.List.Sorted.{IsSortedByKey, IsPartitionedBy, IsPartitionPoint}
use Rattle.std.specs.Option.{option_map}
use Rattle.std.proofs.lemmas.List.{length-map, get_or-map}
use Rattle.std.proofs.lemmas.List.Sorted.{ranks_by, sorted_far}
use Rattle.std.proofs.lemmas.Option.{slice_get-map, slice_get_read, slice_get_past}
use Rattle.edb_units.specs.Orders.{has}
use Rattle.edb_units.proofs.Halving.{filter_map}

slice_get-drop : {X : Type 0} (xs : List X) (i j : ℕ) → slice_get (drop i xs) j ≡ slice_get xs (i + j)
slice_get-drop xs zero j = let e : 0 + j ≡ j = omega arith in rw e refl
slice_get-drop [] (suc i) j = refl
slice_get-drop (x ∷ xs) (suc i) j = let e : suc i + j ≡ suc (i + j) = omega arith in rw e (slice_get-drop xs i j)

module _ {K X : Type 0} (cmp : K → K → Ordering) (order : IsTotalOrder cmp) (key : X → K) (k : K) where
  -- whether an element comes before those that have the key
  abbrev pub before : X → Bool
  before x = is_lt (cmp (key x) k)

  -- an element that has the key
  abbrev pub kept : Option X → Option X
  kept None = None
  kept (Some x) = cond (has cmp key k x) (Some x) None

  earlier : (x y : X) (o : Ordering) → cmp (key x) (key y) ≡ o → is_lt (cmp (key y) (key x)) ≡ false → cmp (key y) k ≡ Less → before x ≡ true
  earlier x y Less e up h = rw (order.trans (key x) (key y) k e h) refl
  earlier x y Equal e up h = rw (order.congr (key x) (key y) k e, h) refl
  earlier x y Greater e up h = absurd (true≢false (sym (ap is_lt (order.antisymm (key y) (key x) ∙ ap ordering_reverse e)) ∙ up))

  is_less : (o : Ordering) → is_lt o ≡ true → o ≡ Less
  is_less Less e = refl
  is_less Equal e = absurd (true≢false (sym e))
  is_less Greater e = absurd (true≢false (sym e))

  -- none that comes before stands behind one that doesn't
  pub parted_by_order : (xs : List X) → IsSortedByKey key cmp xs → IsPartitionedBy before xs
  parted_by_order xs up i j d low inside h =
      earlier (get_or xs i d) (get_or xs j d) _ refl (sorted_far (λ x y. is_lt (cmp (key x) (key y))) (ranks_by order key) xs up i j d low inside) (is_less _ h)

  -- no element is below x
  abbrev Above : X → List X → Type 0
  Above x [] = Unit {0}
  Above x (y ∷ ys) = (is_lt (cmp (key y) (key x)) ≡ false) × Above x ys

  abbrev Ascends : List X → Type 0
  Ascends [] = Unit {0}
  Ascends (x ∷ xs) = Above x xs × Ascends xs

  above_from_places : (x : X) (xs : List X) → ((i : ℕ) → i < length xs → is_lt (cmp (key (get_or xs i x)) (key x)) ≡ false) → Above x xs
  above_from_places x [] h = tt
  above_from_places x (y ∷ ys) h = (h 0 (omega arith), above_from_places x ys (λ i p. h (suc i) (omega arith)))

  ascends_from_places : (xs : List X) → ((i j : ℕ) (d : X) → i ≤ j → j < length xs → is_lt (cmp (key (get_or xs j d)) (key (get_or xs i d))) ≡ false) → Ascends xs
  ascends_from_places [] h = tt
  ascends_from_places (x ∷ xs) h =
      (above_from_places x xs (λ i p. h 0 (suc i) x (omega arith) (omega arith)), ascends_from_places xs (λ i j d p q. h (suc i) (suc j) d (omega arith) (omega arith)))

  ascends_drop : (i : ℕ) (xs : List X) → Ascends xs → Ascends (drop i xs)
  ascends_drop zero xs up = up
  ascends_drop (suc i) [] up = tt
  ascends_drop (suc i) (x ∷ xs) up = ascends_drop i xs up.1

  -- none comes before those that have the key
  abbrev Late : List X → Type 0
  Late [] = Unit {0}
  Late (x ∷ xs) = (before x ≡ false) × Late xs

  late_drop : (i : ℕ) (xs : List X) → AllWithin (λ x. before x ≡ false) xs i (length xs) → Late (drop i xs)
  late_drop zero [] h = tt
  late_drop zero (x ∷ xs) h = (h 0 x (omega arith) (omega arith), late_drop 0 xs (λ j d low inside. h (suc j) d (omega arith) (omega arith)))
  late_drop (suc i) [] h = tt
  late_drop (suc i) (x ∷ xs) h = late_drop i xs (λ j d low inside. h (suc j) d (omega arith) (omega arith))

  -- what stands beyond the key doesn't have it
  beyond : (z y : X) (o : Ordering) → cmp (key y) k ≡ o → cmp (key z) k ≡ Greater → is_lt (cmp (key y) (key z)) ≡ false → is_eq o ≡ false
  beyond z y Less e far up = refl
  beyond z y Greater e far up = refl
  beyond z y Equal e far up =
      let turned : cmp (key y) (key z) ≡ Less = order.congr (key y) k (key z) e ∙ order.antisymm k (key z) ∙ ap ordering_reverse far in
      absurd (true≢false (sym (ap is_lt turned) ∙ up))

  filter_beyond : (z : X) (ys : List X) → cmp (key z) k ≡ Greater → Above z ys → filter (has cmp key k) ys ≡ []
  filter_beyond z [] far up = refl
  filter_beyond z (y ∷ ys) far up = rw (beyond z y _ refl far up.0) (filter_beyond z ys far up.1)

  kept_beyond : (z : X) (ys : List X) (j : ℕ) → cmp (key z) k ≡ Greater → Above z ys → kept (slice_get ys j) ≡ None
  kept_beyond z [] j far up = refl
  kept_beyond z (y ∷ ys) zero far up = rw (beyond z y _ refl far up.0) refl
  kept_beyond z (y ∷ ys) (suc j) far up = kept_beyond z ys j far up.1

  among_late : (zs : List X) (j : ℕ) → Late zs → Ascends zs → slice_get (filter (has cmp key k) zs) j ≡ kept (slice_get zs j)
  among_late [] j late up = refl
  among_late (z ∷ zs) j late up = by (cmp (key z) k) refl j (λ i. among_late zs i late.1 up.1)
    where
      by : (o : Ordering) → cmp (key z) k ≡ o → (j : ℕ) → ((i : ℕ) → slice_get (filter (has cmp key k) zs) i ≡ kept (slice_get zs i)) → slice_get (filter (has cmp key k) (z ∷ zs)) j ≡ kept (slice_get (z ∷ zs) j)
      by Less e j rest = absurd (true≢false (sym (ap is_lt e) ∙ late.0))
      by Equal e zero rest = rw e refl
      by Equal e (suc j) rest = rw e (rest j)
      by Greater e zero rest = rw (e, filter_beyond z zs e up.0) refl
      by Greater e (suc j) rest = rw (e, filter_beyond z zs e up.0, kept_beyond z zs j e up.0) refl

  not_yet : (x : X) → before x ≡ true → has cmp key k x ≡ false
  not_yet x h = ap is_eq (is_less _ h)

  filter_early : (i : ℕ) (xs : List X) → AllWithin (λ x. before x ≡ true) xs 0 i → filter (has cmp key k) xs ≡ filter (has cmp key k) (drop i xs)
  filter_early zero xs h = refl
  filter_early (suc i) [] h = refl
  filter_early (suc i) (x ∷ xs) h = rw (not_yet x (h 0 x (omega arith) (omega arith))) (filter_early i xs (λ j d low inside. h (suc j) d (omega arith) (omega arith)))

  -- The elements that have the key stand in one row, from the first that doesn't come before.
  pub halved : (xs : List X) (i j : ℕ) → IsSortedByKey key cmp xs → IsPartitionPoint (λ x. before x ≡ true) (λ x. before x ≡ false) xs i → slice_get (filter (has cmp key k) xs) j ≡ kept (slice_get xs (i + j))
  halved xs i j up parted =
      let all : Ascends xs = ascends_from_places xs (sorted_far (λ x y. is_lt (cmp (key x) (key y))) (ranks_by order key) xs up) in
      ap (λ ys. slice_get ys j) (filter_early i xs parted.0)
      ∙ among_late (drop i xs) j (late_drop i xs parted.1) (ascends_drop i xs all)
      ∙ ap kept (slice_get-drop xs i j)

-- The same for elements that are seen as others: what was read at a place is the answer, if it has the key.
module _ {K X Y : Type 0} (cmp : K → K → Ordering) (order : IsTotalOrder cmp) (key : X → K) (v : Y → X) (k : K) (ys : List Y) (up : IsSortedByKey key cmp (map v ys)) where
  unseen : IsSortedByKey (λ y. key (v y)) cmp ys
  unseen i d low inside =
      let first : get_or (map v ys) i (v d) ≡ v (get_or ys i d) = get_or-map v ys i d (v d) (omega arith) in
      let second : get_or (map v ys) (i + 1) (v d) ≡ v (get_or ys (i + 1) d) = get_or-map v ys (i + 1) d (v d) inside in
      let there : is_lt (cmp (key (get_or (map v ys) (i + 1) (v d))) (key (get_or (map v ys) i (v d)))) ≡ false = up i (v d) low (omega (arith, length-map ys v)) in
      rw (first, second) at there

  pub parted_by_keys : IsPartitionedBy (λ y. is_lt (cmp (key (v y)) k)) ys
  parted_by_keys = parted_by_order cmp order (λ y. key (v y)) k ys unseen

  module _ (i j at : ℕ) (is_at : i + j ≡ at) (parted : IsPartitionPoint (λ y. is_lt (cmp (key (v y)) k) ≡ true) (λ y. is_lt (cmp (key (v y)) k) ≡ false) ys i) where
    seen : slice_get (filter (has cmp key k) (map v ys)) j ≡ option_map v (kept cmp order (λ y. key (v y)) k (slice_get ys at))
    seen =
        ap (λ xs. slice_get xs j) (filter_map v (has cmp key k) ys)
        ∙ slice_get-map v (filter (λ y. has cmp key k (v y)) ys) j
        ∙ ap (option_map v) (halved cmp order (λ y. key (v y)) k ys i j unseen parted)
        ∙ ap (λ n. option_map v (kept cmp order (λ y. key (v y)) k (slice_get ys n))) is_at

    pub none_there : length ys ≤ at → None ≡ slice_get (filter (has cmp key k) (map v ys)) j
    none_there far = sym (seen ∙ ap (λ o. option_map v (kept cmp order (λ y. key (v y)) k o)) (slice_get_past ys at far))

    -- what stands at the place is the answer, if it has the key
    pub read_there : (y : Y) → at < length ys → y ≡ get_or ys at y → (b : Bool) → has cmp key k (v y) ≡ b → slice_get (filter (has cmp key k) (map v ys)) j ≡ cond b (Some (v y)) None
    read_there y inside is b h =
        seen
        ∙ ap (λ o. option_map v (kept cmp order (λ y. key (v y)) k o)) (slice_get_read ys (length ys) at y refl inside is)
        ∙ ap (λ b. option_map v (cond b (Some y) None)) h
        ∙ choice b
      where
        choice : (b : Bool) → option_map v (cond b (Some y) None) ≡ cond b (Some (v y)) None
        choice true = refl
        choice false = refl
