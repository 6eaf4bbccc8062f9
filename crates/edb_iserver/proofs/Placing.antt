-- A new process at a place of what was seen.

use Rattle.std.proofs.Common.{◌≡◌, ℕ, zero, suc, ◌+◌, ◌-◌, ◌<◌, ◌≤◌, Bool, true, false, if◌then◌else◌, List, [], ◌∷◌, ◌++◌, length, replicate, not, is_some, Option, None, Some, slice_index_or, slice_set, refl, sym, ap, arith}
use Rattle.std.proofs.lemmas.Bool.{both_ways}
use Rattle.std.proofs.lemmas.Option.{none-some}
use Rattle.edb_rules.specs.Seen.{new_seen}
use Rattle.edb_rules.specs.Server.{Server, is_made}
use Rattle.edb_rules.specs.Noted.{placed, started, is_new, noted}

-- where there is a place without a process
pub filled : {A : Type 0} (xs : List (Option A)) (n : ℕ) (x : A) → n < length xs → slice_index_or xs n None ≡ None → slice_set xs n (Some x) ≡ placed n x xs
filled [] n x less none = absurd (omega arith)
filled (None ∷ ys) zero x less none = refl
filled (Some y ∷ ys) zero x less none = absurd (none-some y (sym none))
filled (y ∷ ys) (suc n) x less none = let rest = filled ys n x (omega arith) none in λ i. y ∷ rest i

-- where there is none
pub padded : {A : Type 0} (xs : List (Option A)) (n m : ℕ) (x : A) → n ≡ length xs + m → (xs ++ replicate m None) ++ Some x ∷ [] ≡ placed n x xs
padded [] zero zero x is = refl
padded [] zero (suc m) x is = absurd (omega arith)
padded [] (suc n) zero x is = absurd (omega arith)
padded [] (suc n) (suc m) x is = let rest = padded [] n m x (omega arith) in λ i. None ∷ rest i
padded (y ∷ ys) zero m x is = absurd (omega arith)
padded (y ∷ ys) (suc n) m x is = let rest = padded ys n m x (omega arith) in λ i. y ∷ rest i

-- a number that was told before, and 0, change nothing
kept : {A : Type 0} (xs : List (Option A)) (n : ℕ) (x : A) → is_some (slice_index_or xs n None) ≡ true → placed n x xs ≡ xs
kept [] n x some = absurd (both_ways false refl some)
kept (None ∷ ys) zero x some = absurd (both_ways false refl some)
kept (Some y ∷ ys) zero x some = refl
kept (y ∷ ys) (suc n) x some = let rest = kept ys n x some in λ i. y ∷ rest i

pub started_none : (s : Server) (p : ℕ) → p ≡ 0 → s ≡ noted s (started p)
started_none s zero none = refl
started_none s (suc n) none = absurd (omega arith)

pub started_before : (s : Server) (p : ℕ) → is_made s p ≡ true → s ≡ noted s (started p)
started_before s zero made = refl
started_before s (suc n) made =
    let seen = kept s.seen n new_seen made in
    let old : is_new s (suc n) ≡ false = ap not made in
    let count : (if is_new s (suc n) then suc s.made else s.made) ≡ s.made = ap (λ (b : Bool). if b then suc s.made else s.made) old in
    sym (λ i. record s { seen = seen i; made = count i })

pub started_new : (s : Server) (p : ℕ) → 1 ≤ p → is_made s p ≡ false → record s { seen = placed (p - 1) new_seen s.seen; made = s.made + 1 } ≡ noted s (started p)
started_new s zero some none = absurd (omega (arith, some))
started_new s (suc n) some none =
    let back : suc n - 1 ≡ n = omega arith in
    let fresh : is_new s (suc n) ≡ true = ap not none in
    let one : s.made + 1 ≡ suc s.made = omega arith in
    rw (back, fresh, one) refl
