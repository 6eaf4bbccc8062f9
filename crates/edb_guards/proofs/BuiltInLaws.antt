-- Which built-ins have no row in the table of answers: those that aren't in the tables of built-ins, and those that
-- would take more than four arguments.

use Rattle.std.proofs.Common.{◌≡◌, ◌<◌, ◌+◌, ℕ, suc, true, false, leb, cond, nat_lt, List, [], ◌∷◌, map, length, refl, sym, ap, ◌∙◌, arith, inl, inr, true≢false}
use Rattle.std.specs.Prelude.{Bool, ◌&&◌, ◌==◌, Option, None, Some, find, is_some, bytes_eq}
use Rattle.std.specs.List.{list_all, position, position_or_len}
use Rattle.std.specs.Option.{option_map_or}
use Rattle.std.proofs.Math.Bool.{and-false}
use Rattle.std.proofs.lemmas.Bool.{and_parts, leb-true, cases_lt}
use Rattle.std.proofs.lemmas.Bool.Decides.{nat_tests}
use Rattle.std.proofs.lemmas.Option.{none-some}
use Rattle.edb_table.specs.BuiltIns.{BuiltIn, built_ins, same_built_in, index_of, erlang_keys, int_keys, io_keys, lists_keys}
use Rattle.edb_pure.specs.Table.{Row, rows, read, pure, is_pure}
use Rattle.edb_pure.specs.Answers.{badarg}
use Rattle.edb_lang.specs.Terms.{Datum}

-- the built-ins for which a test is true
abbrev kept : (BuiltIn → Bool) → List BuiltIn → List BuiltIn
kept p [] = []
kept p (b ∷ bs) = cond (p b) (b ∷ kept p bs) (kept p bs)

-- the rows are those of the built-ins that have an answer, in their order
rows_are : map (λ r. r.key) rows ≡ kept is_pure built_ins
unfolding rows erlang_keys int_keys io_keys lists_keys
rows_are = refl

-- no place, nothing found
find-none : (p : BuiltIn → Bool) (bs : List BuiltIn) → position p bs ≡ None → find p bs ≡ None
find-none p [] none = refl
find-none p (b ∷ bs) none = go (p b) refl (λ rest. find-none p bs rest)
  where
    go : (t : Bool) → p b ≡ t → (position p bs ≡ None → find p bs ≡ None) → find p (b ∷ bs) ≡ None
    go true e rec =
        let t : nat_lt 0 (suc (length bs)) ≡ true = grind (arith, nat_tests) in
        let shown : position p (b ∷ bs) ≡ cond (nat_lt 0 (suc (length bs))) (Some 0) None = rw e refl in
        let bad : Some 0 ≡ None = sym (rw t at shown) ∙ none in
        absurd (none-some 0 (sym bad))
    go false e rec =
        let n = position_or_len p bs in
        elim (cases_lt n (length bs)) [
          | inl under ↦
              let t : nat_lt (1 + n) (suc (length bs)) ≡ true = grind (arith, nat_tests) in
              let shown : position p (b ∷ bs) ≡ cond (nat_lt (1 + n) (suc (length bs))) (Some (1 + n)) None = rw e refl in
              let bad : Some (1 + n) ≡ None = sym (rw t at shown) ∙ none in
              cc
          | inr over ↦
              let t : nat_lt n (length bs) ≡ false = grind (arith, nat_tests) in
              let rest : position p bs ≡ None = rw t refl in
              rw e (rec rest)
        ]

-- what isn't found among all isn't among those that are kept
find-kept : (p q : BuiltIn → Bool) (bs : List BuiltIn) → find p bs ≡ None → find p (kept q bs) ≡ None
find-kept p q [] none = refl
find-kept p q (b ∷ bs) none = go (p b) (q b) refl none (λ rest. find-kept p q bs rest)
  where
    go : (s t : Bool) → p b ≡ s → cond s (Some b) (find p bs) ≡ None → (find p bs ≡ None → find p (kept q bs) ≡ None) → find p (cond t (b ∷ kept q bs) (kept q bs)) ≡ None
    go true t e bad rec = absurd (none-some b (sym bad))
    go false true e rest rec = rw e (rec rest)
    go false false e rest rec = rec rest

-- nor among the rows with these keys
find-rows : (p : BuiltIn → Bool) (rs : List Row) → find p (map (λ r. r.key) rs) ≡ None → find (λ r. p r.key) rs ≡ None
find-rows p [] none = refl
find-rows p (r ∷ rs) none = go (p r.key) none (λ rest. find-rows p rs rest)
  where
    go : (s : Bool) → cond s (Some r.key) (find p (map (λ r. r.key) rs)) ≡ None
        → (find p (map (λ r. r.key) rs) ≡ None → find (λ r. p r.key) rs ≡ None) → cond s (Some r) (find (λ r. p r.key) rs) ≡ None
    go true bad rec = absurd (none-some r.key (sym bad))
    go false rest rec = rec rest

by_row : (key : BuiltIn) (me : ℕ) (vs : List Datum) → read rows key ≡ None → pure key me vs ≡ badarg
by_row key me vs none = ap (λ r. option_map_or (λ r. r.gives me vs) r badarg) none

-- what is no built-in
pub pure-no_index : (key : BuiltIn) (me : ℕ) (vs : List Datum) → index_of key ≡ None → pure key me vs ≡ badarg
pure-no_index key me vs none =
    let missing : find (same_built_in key) (map (λ r. r.key) rows) ≡ None =
    ap (find (same_built_in key)) rows_are ∙ find-kept (same_built_in key) is_pure built_ins (find-none (same_built_in key) built_ins none) in
    by_row key me vs (find-rows (same_built_in key) rows missing)

-- what has no answer of its own
pub pure-no_answer : (key : BuiltIn) (me : ℕ) (vs : List Datum) → is_pure key ≡ false → pure key me vs ≡ badarg
pure-no_answer key me vs none = by_row key me vs (go (read rows key) none)
  where
    go : (r : Option Row) → is_some r ≡ false → r ≡ None
    go None e = refl
    go (Some r) e = absurd (true≢false e)

-- no row has a key with more than four arguments
find-few : (m f : List ℕ) (n : ℕ) (bs : List BuiltIn) → 4 < n → list_all (λ b. leb b.1.1 4) bs ≡ true → find (same_built_in (m, (f, n))) bs ≡ None
find-few m f n [] above few = refl
find-few m f n (b ∷ bs) above few =
    let parts = and_parts (leb b.1.1 4) (list_all (λ b. leb b.1.1 4) bs) few in
    let most = leb-true b.1.1 4 parts.0 in
    let other : (n == b.1.1) ≡ false = grind (arith, nat_tests) in
    let unlike : same_built_in (m, (f, n)) b ≡ false =
    ap (λ t. bytes_eq m b.0 && (bytes_eq f b.1.0 && t)) other ∙ (ap (λ t. bytes_eq m b.0 && t) (and-false (bytes_eq f b.1.0)) ∙ and-false (bytes_eq m b.0)) in
    ap (λ t. cond t (Some b) (find (same_built_in (m, (f, n))) bs)) unlike ∙ find-few m f n bs above parts.1

few_arguments : list_all (λ b. leb b.1.1 4) (map (λ r. r.key) rows) ≡ true
unfolding rows
few_arguments = refl

-- what would take more than four arguments
pub pure-many : (m f : List ℕ) (n me : ℕ) (vs : List Datum) → 4 < n → pure (m, (f, n)) me vs ≡ badarg
pure-many m f n me vs above =
    by_row (m, (f, n)) me vs (find-rows (same_built_in (m, (f, n))) rows (find-few m f n (map (λ r. r.key) rows) above few_arguments))
