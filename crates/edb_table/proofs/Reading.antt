-- Reading a list from the top for an item, if a test decides whether two items are one.
use Rattle.std.proofs.Common.{◌≡◌, ℕ, ◌<◌, ◌≤◌, Bool, true, false, ltb, List, length, get_or, Some, None, Decides, position, refl, sym, ap, ◌∙◌, ⊎_elim, arith}
use Rattle.std.specs.List.{position_or_len}
use Rattle.std.proofs.lemmas.Bool.{cases_lt, lt-ltb}
use Rattle.std.proofs.lemmas.Bool.Decides.{nat_tests}
use Rattle.std.proofs.lemmas.List.Quantifiers.{position-Some}
use Rattle.std.proofs.lemmas.List.Sums.{position_or_len_is, fails_before_first}
use Rattle.std.proofs.lemmas.Option.{slice_get-get_or, slice_get_within, get_or_from_slice_get}
use Rattle.edb_table.specs.Keys.{StandsAt}

module _ {A : Type 0} (same : A → A → Bool) (decides : (a b : A) → Decides (same a b) (a ≡ b)) (asked : A) where
  -- a place that has another item fails the test
  other : (items : List A) (k : ℕ) (d : A) → k < length items → ¬ (StandsAt asked items k) → same asked (get_or items k d) ≡ false
  other items k d lt not_here = by (same asked (get_or items k d)) refl
    where
      by : (b : Bool) → same asked (get_or items k d) ≡ b → b ≡ false
      by false e = refl
      by true e = absurd (not_here (slice_get-get_or items k d lt ∙ ap Some (sym ((decides asked (get_or items k d)).0 e))))

  -- the only place that has it is the one that reading from the top gives
  pub read_at : (items : List A) (at : ℕ) → StandsAt asked items at → ((k : ℕ) → StandsAt asked items k → k ≡ at) → position (same asked) items ≡ Some at
  read_at items at here only =
      let inside : at < length items = slice_get_within items at asked here in
      let first : position_or_len (same asked) items ≡ at = position_or_len_is (same asked) items at asked (omega arith)
      (λ k lt. other items k asked (omega arith) (λ (there : StandsAt asked items k). omega (arith, only k there)))
      (λ _. (decides asked (get_or items at asked)).1 (sym (get_or_from_slice_get items at asked asked here))) in
      rw (first, lt-ltb at (length items) inside) refl

  -- if no place has it, reading finds none
  pub read_nowhere : (items : List A) → ((k : ℕ) → ¬ (StandsAt asked items k)) → position (same asked) items ≡ None
  read_nowhere items nowhere =
      let past : position_or_len (same asked) items ≡ length items = position_or_len_is (same asked) items (length items) asked (omega arith)
      (λ k lt. other items k asked lt (nowhere k)) (λ lt. absurd (omega arith)) in
      let none_past : ltb (length items) (length items) ≡ false = grind (arith, nat_tests) in
      rw (past, none_past) refl

  -- what stands at the place that reading gives
  pub read_gives : (items : List A) (at : ℕ) → position (same asked) items ≡ Some at → StandsAt asked items at
  read_gives items at e =
      let found = position-Some (same asked) items at asked e in
      slice_get-get_or items at asked found.0 ∙ ap Some (sym ((decides asked (get_or items at asked)).0 found.1))

  past_all : (items : List A) → position (same asked) items ≡ None → length items ≤ position_or_len (same asked) items
  past_all items e =
      ⊎_elim
      (λ (lt : position_or_len (same asked) items < length items). let some : position (same asked) items ≡ Some (position_or_len (same asked) items) = rw (lt-ltb _ _ lt) refl in cc)
      (λ ge. ge)
      (cases_lt (position_or_len (same asked) items) (length items))

  -- if reading finds none, no place has it
  pub read_none : (items : List A) → position (same asked) items ≡ None → (k : ℕ) → ¬ (StandsAt asked items k)
  read_none items e k there =
      let past : length items ≤ position_or_len (same asked) items = past_all items e in
      let fails = fails_before_first (same asked) items k asked (omega (arith, slice_get_within items k asked there)) in
      let passes = (decides asked (get_or items k asked)).1 (sym (get_or_from_slice_get items k asked asked there)) in
      cc
