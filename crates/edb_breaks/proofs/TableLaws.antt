-- The table: what is found in it, and what a new row changes and leaves.

use Rattle.std.proofs.Common.{◌≡◌, ◌==◌, ℕ, ◌+◌, ◌<◌, ◌≤◌, map, ◌∙◌, suc, zero, Bool, true, false, cond, List, [], ◌∷◌, length, get_or, Option, None, Some, refl, sym, ap, arith}
use Rattle.std.specs.Bool.{Decides}
use Rattle.std.specs.List.{All, AllPairs, find}
use Rattle.std.specs.Option.{option_map, option_or}
use Rattle.std.proofs.lemmas.Bool.Decides.{Decides-and, Decides-eqb, not_from_Decides}
use Rattle.std.proofs.lemmas.List.{get_or-map, length-map}
use Rattle.std.proofs.lemmas.List.Elements.{All-nil, All-cons, All-head, All-map, All-tail, All-push, All-weaker}
use Rattle.std.proofs.lemmas.List.Folds.{find-append}
use Rattle.std.proofs.lemmas.List.Quantifiers.{all_pairs_push}
use Rattle.std.proofs.lemmas.Slice.Eq.{bytes_eq-Decides}
use Rattle.edb_lang.specs.declared.small.BreakRow.{BreakRow}
use Rattle.edb_lang.specs.declared.small.Status.TheVariants.{Active}
use Rattle.edb_lang.specs.TermText.{same_name}
use Rattle.edb_breaks.specs.Table.{Table, IsSound, IsAt, enabled_row, is_at, is_row, new_break, new_row, row_at, with_enabled, with_row}

is_at-Decides : (m : List ℕ) (l : ℕ) (r : BreakRow) → Decides (is_at m l r) (IsAt m l r)
is_at-Decides m l r = Decides-and (same_name m r.module) (l == r.line) (bytes_eq-Decides m r.module) (Decides-eqb l r.line)

is_at-false : (m : List ℕ) (l : ℕ) (r : BreakRow) → ¬ (IsAt m l r) → is_at m l r ≡ false
is_at-false m l r h =
    elim (is_at m l r) as (λ b. is_at m l r ≡ b → b ≡ false) [
      | true ↦ λ e. absurd (h ((is_at-Decides m l r).0 e))
      | false ↦ λ e. refl
    ] refl

option_map-None : {A B : Type 0} (f : A → B) (o : Option A) → option_map f o ≡ None → o ≡ None
option_map-None f None e = refl
option_map-None f (Some x) e = cc

option_or-None : {A : Type 0} (o : Option A) → option_or o None ≡ o
option_or-None None = refl
option_or-None (Some x) = refl

-- if nothing is found, no element passes
find-None : {X : Type 0} (p : X → Bool) (xs : List X) → find p xs ≡ None → All (λ x. p x ≡ false) xs
find-None p [] e = All-nil (λ x. p x ≡ false)
find-None p (x ∷ xs) e =
    elim (p x) as (λ b. p x ≡ b → cond b (Some x) (find p xs) ≡ None → All (λ y. p y ≡ false) (x ∷ xs)) [
      | true ↦ λ t is. cc
      | false ↦ λ t is. All-cons (λ y. p y ≡ false) x xs t (find-None p xs is)
    ] refl e

-- if no element passes, nothing is found
None-find : {X : Type 0} (p : X → Bool) (xs : List X) → All (λ x. p x ≡ false) xs → find p xs ≡ None
None-find p [] a = refl
None-find p (x ∷ xs) a = rw (All-head (λ y. p y ≡ false) x xs a) (None-find p xs (All-tail (λ y. p y ≡ false) x xs a))

-- the element at a place is found if it passes and none before it does
find-at : {X : Type 0} (p : X → Bool) (xs : List X) (k : ℕ) (d : X) → k < length xs → p (get_or xs k d) ≡ true → ((j : ℕ) → j < k → p (get_or xs j d) ≡ false) → find p xs ≡ Some (get_or xs k d)
find-at p [] k d h e before = absurd (omega arith)
find-at p (x ∷ xs) zero d h e before = rw e refl
find-at p (x ∷ xs) (suc k) d h e before =
    rw (before 0 (omega arith)) (find-at p xs k d (omega arith) e (λ j below. before (suc j) (omega arith)))

module _ (m : List ℕ) (l : ℕ) (t : Table) where
  none_stands : row_at m l t ≡ None → All (λ r. ¬ (IsAt m l r)) t.rows
  none_stands e =
      All-weaker (λ r. is_at m l r ≡ false) (λ r. ¬ (IsAt m l r)) (λ r. not_from_Decides (is_at m l r) (is_at-Decides m l r)) t.rows
      (find-None (is_at m l) t.rows (option_map-None (λ (r : BreakRow). r.row) (find (is_at m l) t.rows) e))

  pub row_at-None : (row_at m l t ≡ None → All (λ r. ¬ (IsAt m l r)) t.rows) × (All (λ r. ¬ (IsAt m l r)) t.rows → row_at m l t ≡ None)
  row_at-None = (none_stands, λ a. ap (option_map (λ (r : BreakRow). r.row)) (None-find (is_at m l) t.rows (All-weaker (λ r. ¬ (IsAt m l r)) (λ r. is_at m l r ≡ false) (is_at-false m l) t.rows a)))

  pub row_at-with_row : row_at m l t ≡ None → row_at m l (with_row m l t) ≡ Some (new_break (t.given + 1))
  row_at-with_row e =
      let row = new_row m l (t.given + 1) in
      rw (
        find-append (is_at m l) t.rows (row ∷ []),
        option_map-None (λ (r : BreakRow). r.row) (find (is_at m l) t.rows) e,
        (is_at-Decides m l row).1 (refl, refl),
      ) refl

  pub row_at-with_row_other : (n : List ℕ) (k : ℕ) → ¬ ((n ≡ m) × (k ≡ l)) → row_at n k (with_row m l t) ≡ row_at n k t
  row_at-with_row_other n k h =
      let row = new_row m l (t.given + 1) in
      rw (find-append (is_at n k) t.rows (row ∷ []), is_at-false n k row h, option_or-None (find (is_at n k) t.rows)) refl

  pub with_row-IsSound : row_at m l t ≡ None → IsSound t → IsSound (with_row m l t)
  with_row-IsSound e table =
      let row = new_row m l (t.given + 1) in
      record {
        apart = all_pairs_push (λ r s. ¬ (IsAt r.module r.line s)) t.rows row table.apart (λ k d h same. none_stands e k d h (sym same.0, sym same.1));
        ascending = all_pairs_push (λ r s. r.row.serial < s.row.serial) t.rows row table.ascending (λ k d h. let below = table.numbered k d h in omega arith);
        numbered = All-push (λ r. (1 ≤ r.row.serial) × (r.row.serial ≤ t.given + 1)) t.rows row
            (λ k d h. let below = table.numbered k d h in (below.0, omega arith))
            (omega arith, omega arith);
      }

-- what holds of each two elements holds of their images, if f keeps it
AllPairs-map : {X : Type 0} (R : X → X → Type 0) (f : X → X) → ((x y : X) → R x y → R (f x) (f y)) → (xs : List X) → AllPairs R xs → AllPairs R (map f xs)
AllPairs-map R f keeps xs a j k d below within =
    let long : length (map f xs) ≡ length xs = length-map xs f in
    rw (get_or-map f xs j d d (omega arith), get_or-map f xs k d d (omega arith))
    (keeps (get_or xs j d) (get_or xs k d) (a j k d below (omega arith)))

module _ (serial : ℕ) (m : List ℕ) (l : ℕ) where
  -- a row that is made active keeps its place and serial
  enabled-same : (r : BreakRow) → let e = enabled_row serial m l r in (e.module ≡ r.module) × (e.line ≡ r.line) × (e.row.serial ≡ r.row.serial)
  enabled-same r =
      elim (is_row serial m l r) as (λ b. let e = cond b (record r { row = record r.row { status = Active } }) r in (e.module ≡ r.module) × (e.line ≡ r.line) × (e.row.serial ≡ r.row.serial)) [
        | true ↦ (refl, refl, refl)
        | false ↦ (refl, refl, refl)
      ]

  pub with_enabled-IsSound : (t : Table) → IsSound t → IsSound (with_enabled serial m l t)
  with_enabled-IsSound t table =
      let enabled = enabled_row serial m l in
      record {
        apart = AllPairs-map (λ r s. ¬ (IsAt r.module r.line s)) enabled (λ r s apart same.
            let left = enabled-same r in
            let right = enabled-same s in
            apart (sym left.0 ∙ same.0 ∙ right.0, sym left.1 ∙ same.1 ∙ right.1)) t.rows table.apart;
        ascending = AllPairs-map (λ r s. r.row.serial < s.row.serial) enabled (λ r s below.
            let left = enabled-same r in
            let right = enabled-same s in
            rw (left.2, right.2) below) t.rows table.ascending;
        numbered = All-map (λ r. (1 ≤ r.row.serial) × (r.row.serial ≤ t.given)) enabled t.rows
            (All-weaker (λ r. (1 ≤ r.row.serial) × (r.row.serial ≤ t.given)) (λ r. (1 ≤ (enabled r).row.serial) × ((enabled r).row.serial ≤ t.given))
            (λ r given. rw (enabled-same r).2 given) t.rows table.numbered);
      }

pub each_found : (t : Table) → IsSound t → All (λ r. row_at r.module r.line t ≡ Some r.row) t.rows
each_found t table k d h =
    let row = get_or t.rows k d in
    let test = is_at row.module row.line in
    let here : test row ≡ true = (is_at-Decides row.module row.line row).1 (refl, refl) in
    let before : (j : ℕ) → j < k → test (get_or t.rows j d) ≡ false =
    λ j below. is_at-false row.module row.line (get_or t.rows j d) (λ same. table.apart j k d below h (sym same.0, sym same.1)) in
    ap (option_map (λ (r : BreakRow). r.row)) (find-at test t.rows k d h here before)

-- what `add` needs
pub ruleset tables = (with_row-IsSound)
