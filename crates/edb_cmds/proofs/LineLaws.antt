-- Lines: where the first one ends.
use Rattle.std.proofs.Common.{◌≡◌, ℕ, zero, suc, ◌+◌, ◌-◌, ◌≤◌, ◌<◌, Bool, true, false, cond, not, List, [], ◌∷◌, length, take, drop, get_or, refl, sym, ap, ◌∙◌, arith, eqb-true, length-take, length-drop}
use Rattle.std.specs.Prelude.{count_by, ◌==◌}
use Rattle.std.specs.List.{position_or_len}
use Rattle.std.proofs.lemmas.List.Sums.{sum_by-cons, position_or_len_is}
use Rattle.std.proofs.lemmas.List.{nil_from_length}
use Rattle.std.proofs.Math.Seq.{take-length}
use Rattle.edb_cmds.specs.Script.{first_line, other_lines}

-- no newline before the first one
pub none_before : (xs : List ℕ) (n : ℕ) → n ≤ position_or_len (λ c. c == 10) xs → count_by (λ c. c == 10) (take n xs) ≡ 0
none_before xs zero h = refl
none_before [] (suc n) h = refl
none_before (x ∷ xs) (suc n) h = by (x == 10) refl (none_before xs n)
  where
    by : (b : Bool) → (x == 10) ≡ b → (n ≤ position_or_len (λ c. c == 10) xs → count_by (λ c. c == 10) (take n xs) ≡ 0) → count_by (λ c. c == 10) (x ∷ take n xs) ≡ 0
    by true e ih = let at : position_or_len (λ c. c == 10) (x ∷ xs) ≡ 0 = ap (λ b. cond (not b) (1 + position_or_len (λ c. c == 10) xs) 0) e in absurd (omega arith)
    by false e ih =
        let at : position_or_len (λ c. c == 10) (x ∷ xs) ≡ 1 + position_or_len (λ c. c == 10) xs = ap (λ b. cond (not b) (1 + position_or_len (λ c. c == 10) xs) 0) e in
        let same : count_by (λ c. c == 10) (x ∷ take n xs) ≡ 0 + count_by (λ c. c == 10) (take n xs) =
        sum_by-cons (λ c. cond (c == 10) 1 0) x (take n xs) ∙ ap (λ b. cond b 1 0 + count_by (λ c. c == 10) (take n xs)) e in
        let none = ih (omega arith) in
        omega arith

at_most_all : (xs : List ℕ) → position_or_len (λ c. c == 10) xs ≤ length xs
at_most_all [] = omega arith
at_most_all (x ∷ xs) = by (x == 10) refl (at_most_all xs)
  where
    by : (b : Bool) → (x == 10) ≡ b → position_or_len (λ c. c == 10) xs ≤ length xs → position_or_len (λ c. c == 10) (x ∷ xs) ≤ length (x ∷ xs)
    by true e ih = let at : position_or_len (λ c. c == 10) (x ∷ xs) ≡ 0 = ap (λ b. cond (not b) (1 + position_or_len (λ c. c == 10) xs) 0) e in omega arith
    by false e ih =
        let at : position_or_len (λ c. c == 10) (x ∷ xs) ≡ 1 + position_or_len (λ c. c == 10) xs = ap (λ b. cond (not b) (1 + position_or_len (λ c. c == 10) xs) 0) e in
        omega arith

-- how long the first line is
pub line_length : (bytes : List ℕ) → length (first_line bytes) ≡ position_or_len (λ c. c == 10) bytes
line_length bytes = omega (arith, length-take (position_or_len (λ c. c == 10) bytes) bytes, at_most_all bytes)

is_other : (c : ℕ) → (c ≡ 10 → ⊥) → (c == 10) ≡ false
is_other c ne = by (c == 10) refl
  where
    by : (b : Bool) → (c == 10) ≡ b → (c == 10) ≡ false
    by true e = absurd (ne (eqb-true c 10 e))
    by false e = e

-- where a search for the first newline ends
pub newline_at : (bytes : List ℕ) (n : ℕ) → n < length bytes → ((k : ℕ) → k < n → get_or bytes k 0 ≡ 10 → ⊥) → get_or bytes n 0 ≡ 10 → position_or_len (λ c. c == 10) bytes ≡ n
newline_at bytes n h none is = position_or_len_is (λ c. c == 10) bytes n 0 (omega arith) (λ k lt. is_other (get_or bytes k 0) (none k lt)) (λ lt. ap (λ c. c == 10) is)

-- what a search for the first newline splits off
pub line_split : (bytes : List ℕ) (n : ℕ) → position_or_len (λ c. c == 10) bytes ≡ n → (take n bytes ≡ first_line bytes) × (take (length bytes - (n + 1)) (drop (n + 1) bytes) ≡ other_lines bytes)
line_split bytes n e =
    let all : take (length bytes - (n + 1)) (drop (n + 1) bytes) ≡ drop (n + 1) bytes =
    ap (λ k. take k (drop (n + 1) bytes)) (sym (length-drop (n + 1) bytes)) ∙ take-length (drop (n + 1) bytes) in
    (ap (λ k. take k bytes) (sym e), all ∙ ap (λ k. drop (k + 1) bytes) (sym e))

pub no_newline : (bytes : List ℕ) → ((k : ℕ) → k < length bytes → get_or bytes k 0 ≡ 10 → ⊥) → (bytes ≡ first_line bytes) × (take (length bytes - length bytes) (drop (length bytes) bytes) ≡ other_lines bytes)
no_newline bytes none =
    let at : position_or_len (λ c. c == 10) bytes ≡ length bytes = position_or_len_is (λ c. c == 10) bytes (length bytes) 0 (omega arith) (λ k lt. is_other (get_or bytes k 0) (none k lt)) (λ lt. absurd (omega arith)) in
    let nothing : other_lines bytes ≡ [] = nil_from_length (other_lines bytes) (omega (arith, length-drop (position_or_len (λ c. c == 10) bytes + 1) bytes)) in
    let rest = take (length bytes - length bytes) (drop (length bytes) bytes) in
    let none_left : rest ≡ [] = nil_from_length rest (omega (arith, length-take (length bytes - length bytes) (drop (length bytes) bytes))) in
    (sym (ap (λ k. take k bytes) at ∙ take-length bytes), none_left ∙ sym nothing)
