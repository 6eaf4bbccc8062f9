-- A search by halving over rows that ascend ends at the row of the key, or where it would go.
use Rattle.std.proofs.Common.{◌≡◌, ℕ, zero, suc, ◌<◌, ◌≤◌, true, List, [], ◌∷◌, length, get_or, Option, Some, Result, Ok, Err, IfSome, IfNone, Decides, refl, sym, ap, subst, ◌∙◌, ⊎_elim, arith}
use Rattle.std.specs.declared.cmp.Ordering.{Ordering}
use Rattle.std.specs.declared.cmp.Ordering.TheVariants.{Less, Equal, Greater}
use Rattle.std.specs.Ordering.{nat_cmp, ordering_then, ordering_index, is_lt}
use Rattle.std.specs.Cmp.{IsTotalOrder, tied_itself, alike_right}
use Rattle.std.specs.Cmp.Lexicographic.{slice_cmp}
use Rattle.std.specs.FinMap.{nat_cmp-IsAntisymmetric, slice_cmp-IsAntisymmetric}
use Rattle.std.specs.List.Sorted.{IsBinarySearchResult, IsNonDecreasingBy, IsSearchInRange}
use Rattle.std.specs.Result.{result_ok}
use Rattle.std.proofs.lemmas.Bool.{cases_lt, and_parts}
use Rattle.std.proofs.lemmas.Bool.Decides.{Decides-and, Decides-like, Decides-eqb}
use Rattle.std.proofs.lemmas.Cmp.{then_total, on_total, nat_list_cmp_total, nat_cmp_total}
use Rattle.std.proofs.lemmas.List.{length-map}
use Rattle.std.proofs.lemmas.Option.{slice_get-get_or, slice_get_within, get_or_from_slice_get}
use Rattle.std.proofs.lemmas.Slice.Eq.{bytes_eq-Decides}
use Rattle.edb_table.specs.declared.rows.Row.{Row}
use Rattle.edb_table.specs.Keys.{Key, key_of, keys_of, same_key, StandsAt, place_of, key_cmp, leads, ascending}
use Rattle.edb_table.proofs.Reading.{read_at, read_nowhere}

-- the test of a key decides whether it is that key
pub same_key-Decides : (key other : Key) → Decides (same_key key other) (key ≡ other)
same_key-Decides key other =
    Decides-like (same_key key other) (λ both. λ i. (both.0 i, both.1 i)) (λ e. (ap (λ k. k.0) e, ap (λ k. k.1) e))
    (Decides-and _ _ (bytes_eq-Decides key.0 other.0) (Decides-eqb key.1 other.1))

order : IsTotalOrder key_cmp
order = then_total (on_total (λ (key : Key). key.0) nat_list_cmp_total) (on_total (λ (key : Key). key.1) nat_cmp_total)

both_equal : (first second : Ordering) → ordering_then first second ≡ Equal → (first ≡ Equal) × (second ≡ Equal)
both_equal Less second e = cc
both_equal Equal second e = (refl, e)
both_equal Greater second e = cc

-- keys that compare as equal are one
one_key : (key other : Key) → key_cmp key other ≡ Equal → key ≡ other
one_key key other e =
    let both = both_equal (slice_cmp nat_cmp key.0 other.0) (nat_cmp key.1 other.1) e in
    let name : key.0 ≡ other.0 = slice_cmp-IsAntisymmetric nat_cmp-IsAntisymmetric key.0 other.0 both.0 in
    let arity : key.1 ≡ other.1 = nat_cmp-IsAntisymmetric key.1 other.1 both.1 in
    λ i. (name i, arity i)

is_less : (o : Ordering) → is_lt o ≡ true → o ≡ Less
is_less Less e = refl
is_less Equal e = cc
is_less Greater e = cc

-- a key that leads keys that ascend is below each of them
below_all : (key : Key) (keys : List Key) (i : ℕ) (d : Key) → leads key keys ≡ true → ascending keys ≡ true → i < length keys → key_cmp key (get_or keys i d) ≡ Less
below_all key [] i d first up lt = absurd (omega arith)
below_all key (next ∷ keys) zero d first up lt = is_less (key_cmp key next) first
below_all key (next ∷ keys) (suc i) d first up lt =
    let parts = and_parts (leads next keys) (ascending keys) up in
    order.trans key next (get_or keys i d) (is_less (key_cmp key next) first) (below_all next keys i d parts.0 parts.1 (omega arith))

-- and so of any two places the first has the lesser key
below : (keys : List Key) (i j : ℕ) (d : Key) → ascending keys ≡ true → i < j → j < length keys → key_cmp (get_or keys i d) (get_or keys j d) ≡ Less
below [] i j d up lt inside = absurd (omega arith)
below (key ∷ keys) i zero d up lt inside = absurd (omega arith)
below (key ∷ keys) zero (suc j) d up lt inside =
    let parts = and_parts (leads key keys) (ascending keys) up in
    below_all key keys j d parts.0 parts.1 (omega arith)
below (key ∷ keys) (suc i) (suc j) d up lt inside =
    below keys i j d (and_parts (leads key keys) (ascending keys) up).1 (omega arith) (omega arith)

key_at : (rows : List Row) (i : ℕ) (d : Row) → get_or (keys_of rows) i (key_of d) ≡ key_of (get_or rows i d)
key_at [] i d = refl
key_at (row ∷ rows) zero d = refl
key_at (row ∷ rows) (suc i) d = key_at rows i d

highest : (o : Ordering) → ordering_index o ≤ 2
highest Less = omega arith
highest Equal = omega arith
highest Greater = omega arith

-- a lesser key compares with any key no higher than a greater one
rises : (key low high : Key) → key_cmp low high ≡ Less → ordering_index (key_cmp low key) ≤ ordering_index (key_cmp high key)
rises key low high lt = by (key_cmp high key) refl
  where
    by : (o : Ordering) → key_cmp high key ≡ o → ordering_index (key_cmp low key) ≤ ordering_index (key_cmp high key)
    by Less e = omega (arith, ap ordering_index (order.trans low high key lt e))
    by Equal e = omega (arith, ap ordering_index (sym (alike_right order high key low e) ∙ lt))
    by Greater e = omega (arith, ap ordering_index e, highest (key_cmp low key))

-- what a search of the rows for the key tells
pub record Finds (key : Key) (rows : List Row) (found : Option ℕ) : Type 0 where
  pub first : found ≡ place_of key (keys_of rows)
  pub here : IfSome found (StandsAt key (keys_of rows))
  pub only : IfSome found (λ at. (k : ℕ) → StandsAt key (keys_of rows) k → k ≡ at)
  pub within : IfSome found (λ at. at < length rows)
  pub nowhere : IfNone found ((k : ℕ) → ¬ (StandsAt key (keys_of rows) k))

module _ (rows : List Row) (up : ascending (keys_of rows) ≡ true) (key : Key) where
  -- along the rows the comparisons with a key rise
  rising : IsNonDecreasingBy (λ row. ordering_index (key_cmp (key_of row) key)) rows
  rising i j d le inside =
      ⊎_elim
      (λ (lt : i < j). subst (λ (low : Key). ordering_index (key_cmp low key) ≤ ordering_index (key_cmp (key_of (get_or rows j d)) key)) (key_at rows i d)
      (subst (λ (high : Key). ordering_index (key_cmp (get_or (keys_of rows) i (key_of d)) key) ≤ ordering_index (key_cmp high key)) (key_at rows j d)
      (rises key _ _ (below (keys_of rows) i j (key_of d) up lt (omega (arith, length-map rows key_of))))))
      (λ (ge : j ≤ i). let same : i ≡ j = omega arith in rw same (omega arith))
      (cases_lt i j)

  -- what stands at a place compares as equal with the key, if it is the key
  equal_there : (k : ℕ) (d : Row) → StandsAt key (keys_of rows) k → key_cmp (key_of (get_or rows k d)) key ≡ Equal
  equal_there k d there =
      let same : key_of (get_or rows k d) ≡ key = sym (key_at rows k d) ∙ get_or_from_slice_get (keys_of rows) k key (key_of d) there in
      subst (λ (there : Key). key_cmp there key ≡ Equal) (sym same) (tied_itself order key)

  -- no key stands at two places
  apart : (i j : ℕ) → StandsAt key (keys_of rows) i → StandsAt key (keys_of rows) j → i < j → ⊥
  apart i j first second lt =
      let less = below (keys_of rows) i j key up lt (slice_get_within (keys_of rows) j key second) in
      let less_than_itself : key_cmp key key ≡ Less = rw (get_or_from_slice_get (keys_of rows) i key key first, get_or_from_slice_get (keys_of rows) j key key second) at less in
      let equal : key_cmp key key ≡ Equal = tied_itself order key in
      cc

  only_place : (at : ℕ) → StandsAt key (keys_of rows) at → (k : ℕ) → StandsAt key (keys_of rows) k → k ≡ at
  only_place at here k there = omega (arith, apart k at there here, apart at k here there)

  a_row : (list : List Row) (at : ℕ) → at < length list → Row
  a_row [] at inside = absurd (omega arith)
  a_row (row ∷ list) at inside = row

  pub searched : (result : Result ℕ ℕ) → IsSearchInRange result (length rows) → IsBinarySearchResult (λ row. key_cmp (key_of row) key) rows result → Finds key rows (result_ok result)
  searched (Ok at) inside equal =
      let d = a_row rows at inside in
      let here : StandsAt key (keys_of rows) at = slice_get-get_or (keys_of rows) at (key_of d) (omega (arith, length-map rows key_of)) ∙ ap Some (key_at rows at d ∙ one_key _ key (equal d)) in
      let only = only_place at here in
      record {
        first = sym (read_at same_key same_key-Decides key (keys_of rows) at here only);
        here = here;
        only = only;
        within = inside;
        nowhere = tt;
      }
  searched (Err at) inside parted =
      let nowhere : (k : ℕ) → ¬ (StandsAt key (keys_of rows) k) = λ k there.
      let within : k < length rows = omega (arith, length-map rows key_of, slice_get_within (keys_of rows) k key there) in
      let d = a_row rows k within in
      let equal = equal_there k d there in
      ⊎_elim
      (λ (lt : k < at). let less = (parted rising).0 k d (omega arith) lt in cc)
      (λ (ge : at ≤ k). let greater = (parted rising).1 k d ge within in cc)
      (cases_lt k at) in
      record {
        first = sym (read_nowhere same_key same_key-Decides key (keys_of rows) nowhere);
        here = tt;
        only = tt;
        within = tt;
        nowhere = nowhere;
      }
