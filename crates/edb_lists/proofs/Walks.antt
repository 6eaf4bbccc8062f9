-- Walks over a list, an element at a time.

use Rattle.std.proofs.Common.{◌≡◌, ℕ, false, nat_eq, ◌+◌, ◌<◌, ◌≤◌, List, [], ◌∷◌, ◌++◌, map, drop, length, zip, get_or, Option, Some, None, refl, sym, ap, ◌∙◌, arith}
use Rattle.std.specs.List.{fold, reduce, flat_map}
use Rattle.std.specs.Option.{option_map, option_and_then}
use Rattle.std.proofs.lemmas.List.{at_drop_more, at_drop_all, append_assoc, append-nil, map-append}
use Rattle.edb_lang.specs.Terms.{Datum, tuple, of_list}
use Rattle.edb_lang.specs.ListTerms.{elements_of}
use Rattle.edb_pure.specs.Lists.{each, pair, pair_of}

pub nonempty : {X : Type 0} (xs : List X) → nat_eq (length xs) 0 ≡ false → 0 < length xs
nonempty [] e = absurd (cc)
nonempty (x ∷ xs) e = omega arith

-- the best of those that were read, and those that are left
module _ {Y : Type 0} (f : Y → Y → Y) (ys : List Y) where
  first_of : (zs : List Y) (y : Y) → 0 < length zs → y ≡ get_or zs 0 y → Some (fold f y (drop 1 zs)) ≡ reduce f zs
  first_of [] y h e = absurd (omega arith)
  first_of (z ∷ zs) y h e = ap (λ x. Some (fold f x zs)) e

  pub first_best : (y : Y) → 0 < length ys → y ≡ get_or ys 0 y → Some (fold f y (drop 1 ys)) ≡ reduce f ys
  first_best y h e = first_of ys y h e

  pub next_best : (i : ℕ) (b next y : Y) (r : Option Y) → i < length ys → y ≡ get_or ys i y → next ≡ f b y → Some (fold f b (drop i ys)) ≡ r → Some (fold f next (drop (i + 1) ys)) ≡ r
  next_best i b next y r h e n so =
      (λ k. Some (fold f (n k) (drop (i + 1) ys)))
      ∙ ap (λ z. Some (fold f (f b z) (drop (i + 1) ys))) e
      ∙ sym (at_drop_more (λ zs. Some (fold f b zs)) ys i y h)
      ∙ so

  pub last_best : (i : ℕ) (b : Y) (r : Option Y) → length ys ≤ i → Some (fold f b (drop i ys)) ≡ r → Some b ≡ r
  last_best i b r h so = sym (at_drop_all (λ zs. Some (fold f b zs)) ys i h) ∙ so

-- the elements of lists, put together
put_front : (front us : List Datum) (o : Option (List (List Datum))) → option_map (λ uss. front ++ flat_map (λ us. us) uss) (option_map (λ uss. us ∷ uss) o) ≡ option_map (λ uss. (front ++ us) ++ flat_map (λ us. us) uss) o
put_front front us None = refl
put_front front us (Some uss) = ap Some (sym (append_assoc front us (flat_map (λ us. us) uss)))

module _ (ys : List Datum) (i : ℕ) (y : Datum) (front : List Datum) (r : Option (List Datum)) (h : i < length ys) (e : y ≡ get_or ys i y) (so : option_map (λ uss. front ++ flat_map (λ us. us) uss) (each elements_of (drop i ys)) ≡ r) where
  one : option_map (λ uss. front ++ flat_map (λ us. us) uss) (option_and_then (λ us. option_map (λ uss. us ∷ uss) (each elements_of (drop (i + 1) ys))) (elements_of y)) ≡ r
  one = ap (λ z. option_map (λ uss. front ++ flat_map (λ us. us) uss) (option_and_then (λ us. option_map (λ uss. us ∷ uss) (each elements_of (drop (i + 1) ys))) (elements_of z))) e ∙ sym (at_drop_more (λ zs. option_map (λ uss. front ++ flat_map (λ us. us) uss) (each elements_of zs)) ys i y h) ∙ so

  pub joined_none : None ≡ elements_of y → None ≡ r
  joined_none n = ap (λ o. option_map (λ uss. front ++ flat_map (λ us. us) uss) (option_and_then (λ us. option_map (λ uss. us ∷ uss) (each elements_of (drop (i + 1) ys))) o)) n ∙ one

  pub joined_more : (us next : List Datum) → Some us ≡ elements_of y → next ≡ front ++ us → option_map (λ uss. next ++ flat_map (λ us. us) uss) (each elements_of (drop (i + 1) ys)) ≡ r
  joined_more us next n m =
      ap (λ ts. option_map (λ uss. ts ++ flat_map (λ us. us) uss) (each elements_of (drop (i + 1) ys))) m
      ∙ sym (put_front front us (each elements_of (drop (i + 1) ys)))
      ∙ ap (λ o. option_map (λ uss. front ++ flat_map (λ us. us) uss) (option_and_then (λ us. option_map (λ uss. us ∷ uss) (each elements_of (drop (i + 1) ys))) o)) n
      ∙ one

-- pairs of the elements at one place
pub paired_more : (xs ys : List Datum) (i : ℕ) (x y : Datum) (made next all : List Datum) → i < length xs → i < length ys → x ≡ get_or xs i x → y ≡ get_or ys i y → next ≡ made ++ pair x y ∷ []
    → made ++ map (λ p. pair p.0 p.1) (zip (drop i xs) (drop i ys)) ≡ all → next ++ map (λ p. pair p.0 p.1) (zip (drop (i + 1) xs) (drop (i + 1) ys)) ≡ all
paired_more xs ys i x y made next all hx hy ex ey n so =
    let rest : List Datum = map (λ p. pair p.0 p.1) (zip (drop (i + 1) xs) (drop (i + 1) ys)) in
    ap (λ ts. ts ++ rest) n
    ∙ append_assoc made (pair x y ∷ []) rest
    ∙ (λ k. made ++ map (λ p. pair p.0 p.1) (zip (ex k ∷ drop (i + 1) xs) (ey k ∷ drop (i + 1) ys)))
    ∙ sym (λ k. made ++ map (λ p. pair p.0 p.1) (zip (at_drop_more (λ zs. zs) xs i x hx k) (at_drop_more (λ zs. zs) ys i y hy k)))
    ∙ so

pub paired_all : (xs ys : List Datum) (i : ℕ) (made all : List Datum) → length xs ≤ i → made ++ map (λ p. pair p.0 p.1) (zip (drop i xs) (drop i ys)) ≡ all → made ≡ all
paired_all xs ys i made all h so =
    sym (append-nil made) ∙ sym (at_drop_all (λ zs. made ++ map (λ p. pair p.0 p.1) (zip zs (drop i ys))) xs i h) ∙ so

-- what each element gives, if it gives something, and what comes of all that is given
module _ {A R : Type 0} (f : Datum → Option A) (ys : List Datum) (i : ℕ) (k : List A → R) (r : Option R) (so : option_map k (each f (drop i ys)) ≡ r) where
  each_step : (y : Datum) → i < length ys → y ≡ get_or ys i y → option_map k (option_and_then (λ a. option_map (λ rest. a ∷ rest) (each f (drop (i + 1) ys))) (f y)) ≡ r
  each_step y h e = ap (λ z. option_map k (option_and_then (λ a. option_map (λ rest. a ∷ rest) (each f (drop (i + 1) ys))) (f z))) e ∙ sym (at_drop_more (λ zs. option_map k (each f zs)) ys i y h) ∙ so

  pub each_none : (y : Datum) → i < length ys → y ≡ get_or ys i y → None ≡ f y → None ≡ r
  each_none y h e n = ap (λ o. option_map k (option_and_then (λ a. option_map (λ rest. a ∷ rest) (each f (drop (i + 1) ys))) o)) n ∙ each_step y h e

  with_next : (a : A) (next : List A → R) (o : Option (List A)) → ((rest : List A) → next rest ≡ k (a ∷ rest)) → option_map next o ≡ option_map k (option_map (λ rest. a ∷ rest) o)
  with_next a next None n = refl
  with_next a next (Some rest) n = ap Some (n rest)

  pub each_more : (y : Datum) → i < length ys → y ≡ get_or ys i y → (a : A) (next : List A → R) → Some a ≡ f y → ((rest : List A) → next rest ≡ k (a ∷ rest)) → option_map next (each f (drop (i + 1) ys)) ≡ r
  each_more y h e a next g n =
      with_next a next (each f (drop (i + 1) ys)) n
      ∙ ap (λ o. option_map k (option_and_then (λ a. option_map (λ rest. a ∷ rest) (each f (drop (i + 1) ys))) o)) g
      ∙ each_step y h e

  pub each_all : length ys ≤ i → Some (k []) ≡ r
  each_all h = sym (at_drop_all (λ zs. option_map k (each f zs)) ys i h) ∙ so

-- a tuple of another length is no pair
pub no_pair : (ts : List Datum) → (length ts ≡ 2 → ⊥) → None ≡ pair_of (tuple (of_list ts))
no_pair [] h = refl
no_pair (a ∷ []) h = refl
no_pair (a ∷ b ∷ []) h = absurd (h refl)
no_pair (a ∷ b ∷ t ∷ ts) h = refl

-- one more behind those so far
pub one_behind : {X : Type 0} (v : X → Datum) (xs next : List X) (x : X) (rest : List Datum) → next ≡ xs ++ x ∷ [] → map v next ++ rest ≡ map v xs ++ (v x ∷ rest)
one_behind v xs next x rest e =
    ap (λ ys. map v ys ++ rest) e ∙ ap (λ ys. ys ++ rest) (map-append v xs (x ∷ [])) ∙ append_assoc (map v xs) (v x ∷ []) rest

-- elements in lists, of a first part and of the rest
pub flat_none : (pre : List Datum) (a b : Option (List Datum)) → None ≡ option_map (λ ts. pre ++ ts) a → None ≡ option_map (λ ts. pre ++ ts) (option_and_then (λ front. option_map (λ back. front ++ back) b) a)
flat_none pre None b e = refl
flat_none pre (Some front) b e = absurd (cc)

pub flat_more : (pre v : List Datum) (a b : Option (List Datum)) → Some v ≡ option_map (λ ts. pre ++ ts) a → option_map (λ ts. v ++ ts) b ≡ option_map (λ ts. pre ++ ts) (option_and_then (λ front. option_map (λ back. front ++ back) b) a)
flat_more pre v None b e = absurd (cc)
flat_more pre v (Some front) None e = refl
flat_more pre v (Some front) (Some back) e =
    let is : v ≡ pre ++ front = cc in
    rw is (ap Some (append_assoc pre front back))
