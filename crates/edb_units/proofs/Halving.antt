-- Lists in the order of their keys: a stable sort makes them, and a search that halves finds the first with a key.

use Rattle.std.proofs.Common.{◌≡◌, ◌+◌, ◌<◌, Bool, true, false, not, ◌&&◌, cond, List, [], ◌∷◌, map, length, get_or, refl, sym, ap, ◌∙◌, arith}
use Rattle.std.specs.declared.cmp.Ordering.{Ordering}
use Rattle.std.specs.declared.cmp.Ordering.TheVariants.{Less, Equal, Greater}
use Rattle.std.specs.Ordering.{is_lt, is_eq, ordering_reverse}
use Rattle.std.specs.Cmp.{IsTotalOrder}
use Rattle.std.specs.List.{filter}
use Rattle.std.specs.List.Sorted.{IsSortedBy, IsSortedByKey, IsStableBy, ties}
use Rattle.std.proofs.lemmas.List.{length-map, get_or-map}
use Rattle.std.proofs.lemmas.List.Elements.{filter_agree}
use Rattle.edb_units.specs.Orders.{has, IsInOrder}

pub filter_map : {X Y : Type 0} (v : Y → X) (p : X → Bool) (ys : List Y) → filter p (map v ys) ≡ map v (filter (λ y. p (v y)) ys)
filter_map v p [] = refl
filter_map v p (y ∷ ys) = choice (p (v y)) (filter_map v p ys)
  where
    choice : (b : Bool) → filter p (map v ys) ≡ map v (filter (λ y. p (v y)) ys) → cond b (v y ∷ filter p (map v ys)) (filter p (map v ys)) ≡ map v (cond b (y ∷ filter (λ y. p (v y)) ys) (filter (λ y. p (v y)) ys))
    choice true more = ap (λ l. v y ∷ l) more
    choice false more = more

module _ {K : Type 0} (cmp : K → K → Ordering) (order : IsTotalOrder cmp) where
  module _ {X : Type 0} (key : X → K) where
    -- what ties with an element that has a key has that key
    tie_by : (k : K) (w y : X) → cmp (key w) k ≡ Equal → ties (λ a b. is_lt (cmp (key a) (key b))) w y ≡ has cmp key k y
    tie_by k w y e =
        let there : cmp (key w) (key y) ≡ ordering_reverse (cmp (key y) k) = order.congr (key w) k (key y) e ∙ order.antisymm k (key y) in
        let back : cmp (key y) (key w) ≡ ordering_reverse (ordering_reverse (cmp (key y) k)) = order.antisymm (key y) (key w) ∙ ap ordering_reverse there in
        rw (there, back) (turned (cmp (key y) k))
      where
        turned : (o : Ordering) → not (is_lt (ordering_reverse o)) && not (is_lt (ordering_reverse (ordering_reverse o))) ≡ is_eq o
        turned Less = refl
        turned Equal = refl
        turned Greater = refl

    -- a list without such an element, or one that it has
    data Found (k : K) (xs : List X) : Type 0 where
      nothing : filter (has cmp key k) xs ≡ [] → Found k xs
      something : (w : X) → cmp (key w) k ≡ Equal → Found k xs

    look : (k : K) (xs : List X) → Found k xs
    look k [] = nothing refl
    look k (x ∷ xs) = by (cmp (key x) k) refl (look k xs)
      where
        by : (o : Ordering) → cmp (key x) k ≡ o → Found k xs → Found k (x ∷ xs)
        by Equal e rest = something x e
        by Less e (nothing none) = nothing (rw e none)
        by Less e (something w f) = something w f
        by Greater e (nothing none) = nothing (rw e none)
        by Greater e (something w f) = something w f

    -- a stable sort keeps those with one key in their order
    alike_by : (xs ys : List X) → IsStableBy (λ a b. is_lt (cmp (key a) (key b))) xs ys → (k : K) → filter (has cmp key k) ys ≡ filter (has cmp key k) xs
    alike_by xs ys stable k = choice (look k ys) (look k xs)
      where
        by : (w : X) → cmp (key w) k ≡ Equal → filter (has cmp key k) ys ≡ filter (has cmp key k) xs
        by w e =
            sym (filter_agree _ _ (λ y. tie_by k w y e) ys)
            ∙ stable w
            ∙ filter_agree _ _ (λ y. tie_by k w y e) xs

        choice : Found k ys → Found k xs → filter (has cmp key k) ys ≡ filter (has cmp key k) xs
        choice (something w e) there = by w e
        choice (nothing none) (something w e) = by w e
        choice (nothing none) (nothing nowhere) = none ∙ sym nowhere

  -- A stable sort orders elements.
  pub sorted_itself : {X : Type 0} (key : X → K) (xs ys : List X) → IsSortedBy (λ a b. is_lt (cmp (key a) (key b))) ys → IsStableBy (λ a b. is_lt (cmp (key a) (key b))) xs ys → IsInOrder cmp key xs ys
  sorted_itself key xs ys up stable = record { ascends = up; alike = alike_by key xs ys stable }

  -- A sort of what stands for elements orders these.
  pub sorted_in_order : {X Y : Type 0} (key : X → K) (v : Y → X) (xs ys : List Y) → IsSortedBy (λ a b. is_lt (cmp (key (v a)) (key (v b)))) ys → IsStableBy (λ a b. is_lt (cmp (key (v a)) (key (v b)))) xs ys → IsInOrder cmp key (map v xs) (map v ys)
  sorted_in_order {X} {Y} key v xs ys up stable = record {
    ascends = λ k d low inside. at ys up k d low inside;
    alike = λ k. filter_map v (has cmp key k) ys ∙ ap (map v) (alike_by (λ y. key (v y)) xs ys stable k) ∙ sym (filter_map v (has cmp key k) xs);
  }
    where
      at : (zs : List Y) → IsSortedBy (λ a b. is_lt (cmp (key (v a)) (key (v b)))) zs → IsSortedByKey key cmp (map v zs)
      at [] up k d low inside = absurd (omega arith)
      at (z ∷ zs) up k d low inside =
          let last : k + 1 < length (z ∷ zs) = omega (arith, length-map zs v) in
          let front : k < length (z ∷ zs) = omega arith in
          let first : get_or (map v (z ∷ zs)) k d ≡ v (get_or (z ∷ zs) k z) = get_or-map v (z ∷ zs) k z d front in
          let second : get_or (map v (z ∷ zs)) (k + 1) d ≡ v (get_or (z ∷ zs) (k + 1) z) = get_or-map v (z ∷ zs) (k + 1) z d last in
          rw (first, second) (up k z low last)
