-- How many integers there are from one to another, and which totals are in the range.

use Rattle.std.proofs.Common.{◌≡◌, ℕ, ◌^◌, ◌+◌, ◌-◌, ◌<◌, ◌≤◌, ℤ, pos, negsuc, ◌+ℤ◌, ◌-ℤ◌, ◌≤ℤ◌, ◌<ℤ◌, unsigned_abs, true, false, leb, List, [], ◌∷◌, ◌++◌, map, Ok, refl, sym, ◌∙◌, arith, FitsSigned}
use Rattle.std.specs.Int.{w128}
use Rattle.std.specs.List.{range_with_len}
use Rattle.std.proofs.lemmas.Int.{ints}
use Rattle.std.proofs.lemmas.List.FromFn.{map-range_with_len_more}
use Rattle.std.proofs.lemmas.Bool.{lt-ltb, le-ltb, le-leb, lt-leb}
use Rattle.edb_lang.specs.Terms.{Datum, int, most_high}
use Rattle.edb_pure.specs.Answers.{badarg, system_limit, list_answer}
use Rattle.edb_pure.specs.Integers.{fits, integer_answer}
use Rattle.edb_pure.specs.Lists.{seq}
use Rattle.edb_lists.specs.Totals.{total_of}

upward : (z : ℤ) → pos 0 ≤ℤ z → z ≡ pos (unsigned_abs z)
upward (pos n) h = refl
upward (negsuc n) h = absurd (omega (arith, ints))

downward : (z : ℤ) → z <ℤ pos 0 → z +ℤ pos (unsigned_abs z) ≡ pos 0
downward (pos n) h = absurd (omega (arith, ints))
downward (negsuc n) h = omega (arith, ints)

-- the integers from i to j, which are d apart
module _ (i j : ℤ) (d : ℕ) (e : d ≡ unsigned_abs (j -ℤ i)) where
  count_up : i ≤ℤ j → (j -ℤ i) +ℤ pos 1 ≡ pos (d + 1)
  count_up h =
      let u = upward (j -ℤ i) (omega (arith, ints)) in
      omega (arith, ints)

  count_one : j <ℤ i → d ≤ 1 → (j -ℤ i) +ℤ pos 1 ≡ pos 0
  count_one h few =
      let u = downward (j -ℤ i) (omega (arith, ints)) in
      omega (arith, ints)

  count_below : j <ℤ i → 1 < d → (j -ℤ i) +ℤ pos 1 ≡ negsuc (d - 2)
  count_below h few =
      let u = downward (j -ℤ i) (omega (arith, ints)) in
      omega (arith, ints)

  pub seq_up : i ≤ℤ j → d < 4000 → list_answer (map (λ n. int (i +ℤ pos n)) (range_with_len 0 (d + 1))) ≡ seq (int i) (int j)
  seq_up h few =
      let short : leb (d + 1) most_high ≡ true = le-leb (d + 1) most_high (omega arith) in
      rw (count_up h, short) refl

  pub seq_far : i ≤ℤ j → 4000 ≤ d → system_limit ≡ seq (int i) (int j)
  seq_far h many =
      let long : leb (d + 1) most_high ≡ false = lt-leb (d + 1) most_high (omega arith) in
      rw (count_up h, long) refl

  pub seq_none : j <ℤ i → d ≤ 1 → list_answer [] ≡ seq (int i) (int j)
  seq_none h few = rw (count_one h) refl

  pub seq_below : j <ℤ i → 1 < d → badarg ≡ seq (int i) (int j)
  seq_below h far = rw (count_below h far) refl

-- one integer more
pub run_more : (i : ℤ) (step : ℕ) (made next : List Datum) (t : Datum) → made ≡ map (λ n. int (i +ℤ pos n)) (range_with_len 0 step) → next ≡ made ++ t ∷ [] → t ≡ int (i +ℤ pos step) → next ≡ map (λ n. int (i +ℤ pos n)) (range_with_len 0 (step + 1))
run_more i step made next t so n e = n ∙ (λ k. so k ++ e k ∷ []) ∙ sym (map-range_with_len_more (λ n. int (i +ℤ pos n)) 0 step step (omega arith))

value_fits : (z : ℤ) → FitsSigned w128 z → fits z ≡ true
value_fits (pos n) h = lt-ltb n (2 ^ 127) (omega arith)
value_fits (negsuc n) h = lt-ltb n (2 ^ 127) (omega arith)

same_total : (v : ℤ) (o u : ℕ) → o ≡ u → total_of v o u ≡ v
same_total v o u e = omega (arith, ints)

above : (z : ℤ) → pos (2 ^ 127) ≤ℤ z → fits z ≡ false
above (pos n) h = le-ltb n (2 ^ 127) (omega (arith, ints))
above (negsuc n) h = absurd (omega (arith, ints))

below : (z : ℤ) → z <ℤ (pos 0 -ℤ pos (2 ^ 127)) → fits z ≡ false
below (pos n) h = absurd (omega (arith, ints))
below (negsuc n) h = le-ltb n (2 ^ 127) (omega (arith, ints))

-- a total is in the range only if it left it on both sides equally often
module _ (v : ℤ) (o u : ℕ) (f : FitsSigned w128 v) where
  pub total_fits : o ≡ u → Ok (int v) ≡ integer_answer (total_of v o u)
  total_fits e = let is = same_total v o u e in let in_range = value_fits v f in rw (is, in_range) refl

  out : fits (total_of v o u) ≡ false → system_limit ≡ integer_answer (total_of v o u)
  out e = rw e refl

  pub total_over : u < o → system_limit ≡ integer_answer (total_of v o u)
  total_over h = out (above (total_of v o u) (omega (arith, ints)))

  pub total_under : o < u → system_limit ≡ integer_answer (total_of v o u)
  total_under h = out (below (total_of v o u) (omega (arith, ints)))
