-- A sum is read level by level.

use Rattle.std.proofs.Common.{◌≡◌, ℕ, zero, suc, ◌-◌, ◌<◌, List, None, refl, ap, arith}
use Rattle.edb_scan.specs.declared.lexeme.Placed.{Placed}
use Rattle.edb_small.specs.Descent.{sum_at, sum_with}

pub no_levels : (levels : ℕ) (ts : List Placed) → levels ≡ 0 → sum_at levels ts ≡ None
unfolding sum_at
no_levels zero ts e = refl
no_levels (suc n) ts e = absurd (omega arith)

pub some_levels : (levels : ℕ) (ts : List Placed) → 0 < levels → sum_at levels ts ≡ sum_with (sum_at (levels - 1)) ts
unfolding sum_at
some_levels zero ts h = absurd (omega arith)
some_levels (suc n) ts h = let less : n ≡ suc n - 1 = omega arith in ap (λ m. sum_with (sum_at m) ts) less
