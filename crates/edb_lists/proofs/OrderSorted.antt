-- std's stable sort gives the list that an insertion sort gives.

use Rattle.std.proofs.Common.{◌≡◌, ℕ, suc, ◌<◌, ◌≤◌, Bool, true, false, not, ◌&&◌, cond, List, [], ◌∷◌, length, get_or, refl, sym, ap, subst, ◌∙◌, arith, true≢false}
use Rattle.std.specs.Cmp.{IsTotalOrder, IsStrictWeakOrder}
use Rattle.std.specs.List.{filter}
use Rattle.std.specs.List.Sorted.{IsSortedBy, IsStableBy, ties}
use Rattle.std.proofs.lemmas.List.Sorted.{sorted_far}
use Rattle.edb_lang.specs.Order.{term_cmp}
use Rattle.edb_lang.proofs.OrderLaws.{same_term, term_back}
use Rattle.edb_lang.proofs.OrderChain.{below_trans}
use Rattle.edb_pure.specs.Sorting.{insert_in_order, sorted}

module _ {X : Type 0} (lt : X → X → Bool) where
  -- no element is below x
  abbrev Above : X → List X → Type 0
  Above x [] = Unit {0}
  Above x (y ∷ ys) = (lt y x ≡ false) × Above x ys

  -- no element is below one before it
  abbrev Ascends : List X → Type 0
  Ascends [] = Unit {0}
  Ascends (x ∷ xs) = Above x xs × Ascends xs

  above_from_places : (x : X) (xs : List X) → ((k : ℕ) → k < length xs → lt (get_or xs k x) x ≡ false) → Above x xs
  above_from_places x [] h = tt
  above_from_places x (y ∷ ys) h = (h 0 (omega arith), above_from_places x ys (λ k p. h (suc k) (omega arith)))

  ascends_from_places : (xs : List X) → ((i j : ℕ) (d : X) → i ≤ j → j < length xs → lt (get_or xs j d) (get_or xs i d) ≡ false) → Ascends xs
  ascends_from_places [] h = tt
  ascends_from_places (x ∷ xs) h =
      (above_from_places x xs (λ k p. h 0 (suc k) x (omega arith) (omega arith)), ascends_from_places xs (λ i j d p q. h (suc i) (suc j) d (omega arith) (omega arith)))

  above_if : (x y : X) (b : Bool) (ys : List X) → lt y x ≡ false → Above x ys → Above x (cond b (y ∷ ys) ys)
  above_if x y true ys e h = (e, h)
  above_if x y false ys e h = h

  above_filter : (t : X → Bool) (x : X) (xs : List X) → Above x xs → Above x (filter t xs)
  above_filter t x [] h = tt
  above_filter t x (y ∷ ys) h = above_if x y (t y) (filter t ys) h.0 (above_filter t x ys h.1)

  tie : (x y : X) (a b : Bool) → lt x y ≡ a → lt y x ≡ b → a ≡ false → b ≡ false → ties lt x y ≡ true
  tie x y a b p q e f = rw (p ∙ e, q ∙ f) refl

  not_below : (a b : Bool) → not a && not b ≡ true → (a ≡ false) × (b ≡ false)
  not_below true b e = absurd (true≢false (sym e))
  not_below false true e = absurd (true≢false (sym e))
  not_below false false e = (refl, refl)

  module _ (o : IsStrictWeakOrder lt) where
    not_itself : (x : X) (b : Bool) → lt x x ≡ b → lt x x ≡ false
    not_itself x true e = o.one_way x x e
    not_itself x false e = e

    ties_itself : (x : X) → ties lt x x ≡ true
    ties_itself x = let e = not_itself x (lt x x) refl in rw e refl

    -- of two elements that tie with a third, the second is not below the first
    both_tie : (w x y : X) → ties lt w x ≡ true → ties lt w y ≡ true → lt y x ≡ false
    both_tie w x y p q =
        o.chain y w x (not_below (lt w y) (lt y w) q).1 (not_below (lt w x) (lt x w) p).0

    above_more : (x y : X) (ys : List X) → lt y x ≡ false → Above y ys → Above x ys
    above_more x y [] e h = tt
    above_more x y (z ∷ zs) e h = (o.chain z y x h.0 e, above_more x y zs e h.1)

    above_insert : (y x : X) (ys : List X) → lt x y ≡ false → Above y ys → Above y (insert_in_order lt x ys)
    above_insert y x [] e h = (e, tt)
    above_insert y x (z ∷ zs) e h = above_choice y x z zs (lt z x) e h (above_insert y x zs e h.1)
      where
        above_choice : (y x z : X) (zs : List X) (b : Bool) → lt x y ≡ false → Above y (z ∷ zs) → Above y (insert_in_order lt x zs) → Above y (cond b (z ∷ insert_in_order lt x zs) (x ∷ z ∷ zs))
        above_choice y x z zs true e h more = (h.0, more)
        above_choice y x z zs false e h more = (e, h)

    ascends_insert : (x : X) (ys : List X) → Ascends ys → Ascends (insert_in_order lt x ys)
    ascends_insert x [] h = (tt, tt)
    ascends_insert x (y ∷ ys) h = ascends_choice x y ys (lt y x) refl h (ascends_insert x ys h.1)
      where
        ascends_choice : (x y : X) (ys : List X) (b : Bool) → lt y x ≡ b → Ascends (y ∷ ys) → Ascends (insert_in_order lt x ys) → Ascends (cond b (y ∷ insert_in_order lt x ys) (x ∷ y ∷ ys))
        ascends_choice x y ys true e h more = (above_insert y x ys (o.one_way y x e) h.0, more)
        ascends_choice x y ys false e h more = ((e, above_more x y ys e h.0), h)

    ascends_sorted : (xs : List X) → Ascends (sorted lt xs)
    ascends_sorted [] = tt
    ascends_sorted (x ∷ xs) = ascends_insert x (sorted lt xs) (ascends_sorted xs)

    -- Elements that tie stay in their order.
    insert_passes : (x y : X) (a b : Bool) (ys zs : List X) → (a ≡ true → b ≡ true → ⊥) → zs ≡ cond a (x ∷ ys) ys → cond b (y ∷ zs) zs ≡ cond a (x ∷ cond b (y ∷ ys) ys) (cond b (y ∷ ys) ys)
    insert_passes x y true true ys zs apart e = absurd (apart refl refl)
    insert_passes x y true false ys zs apart e = e
    insert_passes x y false true ys zs apart e = ap (λ l. y ∷ l) e
    insert_passes x y false false ys zs apart e = e

    stable_insert : (w x : X) (ys : List X) → filter (ties lt w) (insert_in_order lt x ys) ≡ filter (ties lt w) (x ∷ ys)
    stable_insert w x [] = refl
    stable_insert w x (y ∷ ys) = stable_choice w x y ys (lt y x) refl (stable_insert w x ys)
      where
        stable_choice : (w x y : X) (ys : List X) (b : Bool) → lt y x ≡ b → filter (ties lt w) (insert_in_order lt x ys) ≡ filter (ties lt w) (x ∷ ys)
            → filter (ties lt w) (cond b (y ∷ insert_in_order lt x ys) (x ∷ y ∷ ys)) ≡ filter (ties lt w) (x ∷ y ∷ ys)
        stable_choice w x y ys true e more =
            insert_passes x y (ties lt w x) (ties lt w y) (filter (ties lt w) ys) (filter (ties lt w) (insert_in_order lt x ys)) (λ p q. true≢false (sym e ∙ both_tie w x y p q)) more
        stable_choice w x y ys false e more = refl

    stable_sorted : (w : X) (xs : List X) → filter (ties lt w) (sorted lt xs) ≡ filter (ties lt w) xs
    stable_sorted w [] = refl
    stable_sorted w (x ∷ xs) = stable_insert w x (sorted lt xs) ∙ ap (λ l. cond (ties lt w x) (x ∷ l) l) (stable_sorted w xs)

    -- Two lists that ascend are one if they have the same elements that tie with any, in one order.
    abbrev Alike : List X → List X → Type 0
    Alike ys zs = (w : X) → filter (ties lt w) ys ≡ filter (ties lt w) zs

    same_tails : (x : X) (b : Bool) (ys zs : List X) → cond b (x ∷ ys) ys ≡ cond b (x ∷ zs) zs → ys ≡ zs
    same_tails x true ys zs e = cc
    same_tails x false ys zs e = e

    -- what the first of a list is among those that tie with it
    first_stays : (y : X) (ys : List X) → filter (ties lt y) (y ∷ ys) ≡ y ∷ filter (ties lt y) ys
    first_stays y ys = ap (λ b. cond b (y ∷ filter (ties lt y) ys) (filter (ties lt y) ys)) (ties_itself y)

    none_and_one : (z : X) (zs : List X) → Alike [] (z ∷ zs) → ⊥
    none_and_one z zs h = let e : [] ≡ z ∷ filter (ties lt z) zs = h z ∙ first_stays z zs in absurd (cc)

    -- the first of one list is not below the first of the other
    firsts_rise : (y z : X) (ys zs : List X) (b : Bool) → ties lt y z ≡ b → Ascends (z ∷ zs) → y ∷ ys ≡ cond b (z ∷ filter (ties lt y) zs) (filter (ties lt y) zs) → lt y z ≡ false
    firsts_rise y z ys zs true t up e = (not_below (lt y z) (lt z y) t).0
    firsts_rise y z ys zs false t up e = (subst (Above z) (sym e) (above_filter (ties lt y) z zs up.0)).0

    first_is_first : (y z : X) (ys zs : List X) (b : Bool) → b ≡ true → y ∷ ys ≡ cond b (z ∷ zs) zs → y ≡ z
    first_is_first y z ys zs true t e = cc
    first_is_first y z ys zs false t e = absurd (true≢false (sym t))

    same_first : (y z : X) (ys zs : List X) → Ascends (y ∷ ys) → Ascends (z ∷ zs) → Alike (y ∷ ys) (z ∷ zs) → y ≡ z
    same_first y z ys zs up upper h =
        let e : y ∷ filter (ties lt y) ys ≡ filter (ties lt y) (z ∷ zs) = sym (first_stays y ys) ∙ h y in
        let f : z ∷ filter (ties lt z) zs ≡ filter (ties lt z) (y ∷ ys) = sym (first_stays z zs) ∙ sym (h z) in
        let p : lt y z ≡ false = firsts_rise y z (filter (ties lt y) ys) zs (ties lt y z) refl upper e in
        let q : lt z y ≡ false = firsts_rise z y (filter (ties lt z) zs) ys (ties lt z y) refl up f in
        first_is_first y z (filter (ties lt y) ys) (filter (ties lt y) zs) (ties lt y z) (rw (p, q) refl) e

    one_order : (ys zs : List X) → Ascends ys → Ascends zs → Alike ys zs → ys ≡ zs
    one_order [] [] up upper h = refl
    one_order [] (z ∷ zs) up upper h = absurd (none_and_one z zs h)
    one_order (y ∷ ys) [] up upper h = absurd (none_and_one y ys (λ w. sym (h w)))
    one_order (y ∷ ys) (z ∷ zs) up upper h =
        let e : y ≡ z = same_first y z ys zs up upper h in
        let rest : Alike ys zs = λ w. same_tails y (ties lt w y) (filter (ties lt w) ys) (filter (ties lt w) zs) (h w ∙ ap (λ x. cond (ties lt w x) (x ∷ filter (ties lt w) zs) (filter (ties lt w) zs)) (sym e)) in
        λ k. e k ∷ one_order ys zs up.1 upper.1 rest k

    -- what a stable sort leaves
    pub sort_is : (xs ys : List X) → IsSortedBy lt ys → IsStableBy lt xs ys → ys ≡ sorted lt xs
    sort_is xs ys up stable =
        one_order ys (sorted lt xs) (ascends_from_places ys (sorted_far lt o ys up)) (ascends_sorted xs) (λ w. stable w ∙ sym (stable_sorted w xs))

-- the order of terms
pub term_total : IsTotalOrder term_cmp
term_total = record {
  antisymm = λ x y. term_back y x;
  trans = below_trans;
  congr = λ x y z e. ap (λ t. term_cmp t z) (same_term x y e);
}
