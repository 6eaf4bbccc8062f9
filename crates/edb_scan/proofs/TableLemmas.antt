-- A search through a table: which rows are still to come.
use Rattle.std.proofs.Common.{◌≡◌, ℕ, zero, suc, ◌≤◌, ◌<◌, ◌+◌, Bool, true, leb, List, [], ◌∷◌, length, get_or, drop, drop-cons, refl, sym, ap, subst, inl, inr, ⊎_elim, arith, add-one}
use Rattle.std.specs.Borrow.{Bor}
use Rattle.std.specs.List.{list_all}
use Rattle.std.proofs.lemmas.Bool.{and_parts, leb-true}
use Rattle.std.proofs.lemmas.List.{drop_all}
use Rattle.edb_scan.specs.declared.lexeme.Mark.{Mark}
use Rattle.edb_scan.specs.RowFronts.{table_of, longest_first}
use Rattle.edb_scan.specs.Spellings.{Lists}
use Rattle.edb_scan.proofs.Rows.{lists_pass}

pub listed_at : (table : List (Bor (List ℕ) × Mark)) (i : ℕ) (d : Bor (List ℕ) × Mark) → i < length table → Lists (table_of table) (get_or table i d).0.now (get_or table i d).1
listed_at [] i d lt = absurd (omega arith)
listed_at (row ∷ rows) zero d lt = inl (refl, refl)
listed_at (row ∷ rows) (suc i) d lt = inr (listed_at rows i d (omega arith))

-- what is listed from a row on, and is not that row, is listed after it
pub listed_behind : (table : List (Bor (List ℕ) × Mark)) (i : ℕ) (d : Bor (List ℕ) × Mark) (text : List ℕ) (m : Mark) → i < length table
    → ((get_or table i d).0.now ≡ text → ⊥) → Lists (table_of (drop i table)) text m → Lists (table_of (drop (i + 1) table)) text m
listed_behind table i d text m lt other h =
    let P : List (Bor (List ℕ) × Mark) → Type 0 = λ t. Lists (table_of t) text m in
    let Q : ℕ → Type 0 = λ j. Lists (table_of (drop j table)) text m in
    subst Q (sym (add-one i)) (⊎_elim (λ (here : ((get_or table i d).0.now ≡ text) × ((get_or table i d).1 ≡ m)). absurd (other here.0)) (λ (later : Lists (table_of (drop (suc i) table)) text m). later) (subst P (drop-cons table i d lt) h))

pub listed_nowhere : (table : List (Bor (List ℕ) × Mark)) (i : ℕ) (text : List ℕ) (m : Mark) → length table ≤ i → Lists (table_of (drop i table)) text m → ⊥
listed_nowhere table i text m past h =
    let P : List (Bor (List ℕ) × Mark) → Type 0 = λ t. Lists (table_of t) text m in
    subst P (drop_all i table past) h

-- if the longest stand first, what is listed from a row on is no longer than that row
pub no_longer : (table : List (Bor (List ℕ) × Mark)) (i : ℕ) (d : Bor (List ℕ) × Mark) (text : List ℕ) (m : Mark) → i < length table → longest_first (table_of table) ≡ true
    → Lists (table_of (drop i table)) text m → length text ≤ length (get_or table i d).0.now
no_longer [] i d text m lt first h = absurd (omega arith)
no_longer (row ∷ rows) zero d text m lt first (inl h) = omega (arith, ap length h.0)
no_longer (row ∷ rows) zero d text m lt first (inr h) =
    let tested : List ℕ → Bool = λ t. leb (length t) (length row.0.now) in
    let passes : tested text ≡ true = lists_pass tested (table_of rows) text m (and_parts (list_all (λ other. leb (length other.0) (length row.0.now)) (table_of rows)) (longest_first (table_of rows)) first).0 h in
    leb-true (length text) (length row.0.now) passes
no_longer (row ∷ rows) (suc i) d text m lt first h = no_longer rows i d text m (omega arith) (and_parts (list_all (λ other. leb (length other.0) (length row.0.now)) (table_of rows)) (longest_first (table_of rows)) first).1 h
