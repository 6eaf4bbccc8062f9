-- Lists of references that are sorted, and what is said of their values.

use Rattle.std.proofs.Common.{◌≡◌, ℕ, ◌+◌, ◌<◌, ◌≤◌, Bool, true, false, cond, List, [], ◌∷◌, ◌++◌, map, drop, length, get_or, Option, Some, None, refl, sym, ap, ◌∙◌, Bor}
use Rattle.std.specs.List.{dedup, dedup_from}
use Rattle.std.specs.Option.{option_map, option_and_then}
use Rattle.std.proofs.lemmas.List.{at_drop_more, at_drop_all, append_assoc, append-nil, length-map, map-append}
use Rattle.edb_pure.specs.Sorting.{insert_in_order, sorted}
use Rattle.edb_pure.specs.Lists.{each}
use Rattle.edb_pure.specs.Keys.{key_of, is_key_below, keysort}
use Rattle.edb_pure.specs.Answers.{Answer, list_answer, given}
use Rattle.edb_pure.specs.Tuples.{place_of}
use Rattle.edb_lang.specs.ListTerms.{elements_of}
use Rattle.edb_lang.specs.Terms.{Datum}
use Rattle.edb_lang.specs.declared.term.Term.{Term}
use Rattle.edb_lists.proofs.Places.{read_value}

-- Values are sorted as the references to them are.
module _ {X Y : Type 0} (v : X → Y) (below : Y → Y → Bool) where
  insert_of_values : (x : X) (xs : List X) → map v (insert_in_order (λ a b. below (v a) (v b)) x xs) ≡ insert_in_order below (v x) (map v xs)
  insert_of_values x [] = refl
  insert_of_values x (y ∷ ys) = choice x y ys (below (v y) (v x)) (insert_of_values x ys)
    where
      choice : (x y : X) (ys : List X) (b : Bool) → map v (insert_in_order (λ a b. below (v a) (v b)) x ys) ≡ insert_in_order below (v x) (map v ys)
          → map v (cond b (y ∷ insert_in_order (λ a b. below (v a) (v b)) x ys) (x ∷ y ∷ ys)) ≡ cond b (v y ∷ insert_in_order below (v x) (map v ys)) (v x ∷ v y ∷ map v ys)
      choice x y ys true more = ap (λ l. v y ∷ l) more
      choice x y ys false more = refl

  pub sorted_values : (xs : List X) → map v (sorted (λ a b. below (v a) (v b)) xs) ≡ sorted below (map v xs)
  sorted_values [] = refl
  sorted_values (x ∷ xs) = insert_of_values x (sorted (λ a b. below (v a) (v b)) xs) ∙ ap (insert_in_order below (v x)) (sorted_values xs)

-- Values are dropped as the references to them are.
module _ {X Y : Type 0} (v : X → Y) (same : Y → Y → Bool) where
  distinct_from : (k : X) (xs : List X) → map v (dedup_from (λ a b. same (v a) (v b)) k xs) ≡ dedup_from same (v k) (map v xs)
  distinct_from k [] = refl
  distinct_from k (x ∷ xs) = choice k x xs (same (v x) (v k)) (distinct_from k xs) (distinct_from x xs)
    where
      choice : (k x : X) (xs : List X) (b : Bool) → map v (dedup_from (λ a b. same (v a) (v b)) k xs) ≡ dedup_from same (v k) (map v xs) → map v (dedup_from (λ a b. same (v a) (v b)) x xs) ≡ dedup_from same (v x) (map v xs)
          → map v (cond b (dedup_from (λ a b. same (v a) (v b)) k xs) (k ∷ dedup_from (λ a b. same (v a) (v b)) x xs)) ≡ cond b (dedup_from same (v k) (map v xs)) (v k ∷ dedup_from same (v x) (map v xs))
      choice k x xs true kept next = kept
      choice k x xs false kept next = ap (λ l. v k ∷ l) next

  pub distinct_values : (xs : List X) → map v (dedup (λ a b. same (v a) (v b)) xs) ≡ dedup same (map v xs)
  distinct_values [] = refl
  distinct_values (x ∷ xs) = distinct_from x xs

pub map_of_map : {X Y Z : Type 0} (f : Y → Z) (v : X → Y) (xs : List X) → map f (map v xs) ≡ map (λ x. f (v x)) xs
map_of_map f v [] = refl
map_of_map f v (x ∷ xs) = ap (λ l. f (v x) ∷ l) (map_of_map f v xs)

-- What a function gives of each element, an element at a time.
put_one : {Z : Type 0} (made : List Z) (z : Z) (o : Option (List Z)) → option_map (λ zs. (made ++ z ∷ []) ++ zs) o ≡ option_map (λ zs. made ++ zs) (option_map (λ zs. z ∷ zs) o)
put_one made z None = refl
put_one made z (Some zs) = ap Some (append_assoc made (z ∷ []) zs)

module _ {Y Z : Type 0} (f : Y → Option Z) (ys : List Y) (i : ℕ) (made : List Z) (r : Option (List Z)) (so : option_map (λ zs. made ++ zs) (each f (drop i ys)) ≡ r) where
  one : (y : Y) → i < length ys → y ≡ get_or ys i y → option_map (λ zs. made ++ zs) (option_and_then (λ z. option_map (λ zs. z ∷ zs) (each f (drop (i + 1) ys))) (f y)) ≡ r
  one y h e =
      ap (λ x. option_map (λ zs. made ++ zs) (option_and_then (λ z. option_map (λ zs. z ∷ zs) (each f (drop (i + 1) ys))) (f x))) e
      ∙ sym (at_drop_more (λ xs. option_map (λ zs. made ++ zs) (each f xs)) ys i y h)
      ∙ so

  pub each_none : (y : Y) → i < length ys → y ≡ get_or ys i y → None ≡ f y → None ≡ r
  each_none y h e n = ap (λ o. option_map (λ zs. made ++ zs) (option_and_then (λ z. option_map (λ zs. z ∷ zs) (each f (drop (i + 1) ys))) o)) n ∙ one y h e

  pub each_more : (y : Y) → i < length ys → y ≡ get_or ys i y → (z : Z) (next : List Z) → Some z ≡ f y → next ≡ made ++ z ∷ [] → option_map (λ zs. next ++ zs) (each f (drop (i + 1) ys)) ≡ r
  each_more y h e z next n m =
      ap (λ l. option_map (λ zs. l ++ zs) (each f (drop (i + 1) ys))) m
      ∙ put_one made z (each f (drop (i + 1) ys))
      ∙ ap (λ o. option_map (λ zs. made ++ zs) (option_and_then (λ z. option_map (λ zs. z ∷ zs) (each f (drop (i + 1) ys))) o)) n
      ∙ one y h e

  pub each_all : length ys ≤ i → Some made ≡ r
  each_all h = ap Some (sym (append-nil made)) ∙ sym (at_drop_all (λ xs. option_map (λ zs. made ++ zs) (each f xs)) ys i h) ∙ so

-- an element behind its key, each by its value
abbrev pub values_of : Bor Term × Bor Term → Datum × Datum
values_of p = (p.0.now, p.1.now)

-- the key of an element, and the element
abbrev pub with_key : ℕ → Datum → Option (Datum × Datum)
with_key i u = option_map (λ k. (k, u)) (key_of i u)

-- the pairs so far, and those of the elements that are left
abbrev pub Paired : ℕ → List (Bor Term) → ℕ → List (Bor Term × Bor Term) → Type 0
Paired place xs i pairs =
    option_map (λ ps. map values_of pairs ++ ps) (each (with_key place) (drop i (map (λ t. t.now) xs))) ≡ each (with_key place) (map (λ t. t.now) xs)

module _ (place : ℕ) (xs : List (Bor Term)) (i : ℕ) (pairs : List (Bor Term × Bor Term)) (so : Paired place xs i pairs) where
  pub keyed_none : (x : Bor Term) → i < length xs → x ≡ get_or xs i x → None ≡ key_of place x.now → None ≡ each (with_key place) (map (λ t. t.now) xs)
  keyed_none x h e n =
      each_none (with_key place) (map (λ t. t.now) xs) i (map values_of pairs) _ so x.now (simp length-map h) (read_value (λ (t : Bor Term). t.now) xs i x h e)
      (ap (option_map (λ k. (k, x.now))) n)

  pub keyed_more : (x key : Bor Term) (next : List (Bor Term × Bor Term)) → i < length xs → x ≡ get_or xs i x → Some key.now ≡ key_of place x.now → next ≡ pairs ++ (key, x) ∷ [] → Paired place xs (i + 1) next
  keyed_more x key next h e n m =
      each_more (with_key place) (map (λ t. t.now) xs) i (map values_of pairs) _ so x.now (simp length-map h) (read_value (λ (t : Bor Term). t.now) xs i x h e)
      (key.now, x.now) (map values_of next) (ap (option_map (λ k. (k, x.now))) n)
      (ap (map values_of) m ∙ map-append values_of pairs ((key, x) ∷ []))

  pub keyed_all : length xs ≤ i → Some (map values_of pairs) ≡ each (with_key place) (map (λ t. t.now) xs)
  keyed_all h = each_all (with_key place) (map (λ t. t.now) xs) i (map values_of pairs) _ so (simp length-map h)

-- the answer, of the elements and keys that were read
pub keysort_is : (n t : Datum) (i : ℕ) (ts : List Datum) (ps : List (Datum × Datum)) (us : List Datum) → Some i ≡ place_of n → Some ts ≡ elements_of t → Some ps ≡ each (with_key i) ts
    → us ≡ map (λ p. p.1) (sorted is_key_below ps) → list_answer us ≡ keysort n t
keysort_is n t i ts ps us h f e g =
    let answer : List (Datum × Datum) → Answer = λ ks. list_answer (map (λ p. p.1) (sorted is_key_below ks)) in
    ap list_answer g
    ∙ ap (λ (o : Option (List (Datum × Datum))). given o answer) e
    ∙ ap (λ (o : Option (List Datum)). given (option_and_then (each (with_key i)) o) answer) f
    ∙ ap (λ (o : Option ℕ). given o (λ j. given (option_and_then (each (with_key j)) (elements_of t)) answer)) h
