-- No built-in takes more than four arguments.

use Rattle.std.proofs.Common.{◌≡◌, ◌≤◌, ◌<◌, ℕ, zero, suc, true, leb, List, [], ◌∷◌, length, slice_get, IfSome, refl, sym, subst, arith}
use Rattle.std.specs.List.{list_all}
use Rattle.std.proofs.lemmas.Bool.{and_parts, leb-true}
use Rattle.edb_table.specs.BuiltIns.{BuiltIn, built_ins, erlang_keys, int_keys, io_keys, lists_keys}

-- what none of these built-ins takes more of, the one at a place doesn't
taken_at : (most n i : ℕ) (bs : List BuiltIn) → list_all (λ b. leb b.1.1 most) bs ≡ true → i < length bs → IfSome (slice_get bs i) (λ b. n ≡ b.1.1) → n ≤ most
taken_at most n i [] all within taken = absurd (omega arith)
taken_at most n zero (b ∷ bs) all within taken =
    subst (λ k. k ≤ most) (sym taken) (leb-true b.1.1 most (and_parts (leb b.1.1 most) (list_all (λ b. leb b.1.1 most) bs) all).0)
taken_at most n (suc i) (b ∷ bs) all within taken =
    taken_at most n i bs (and_parts (leb b.1.1 most) (list_all (λ b. leb b.1.1 most) bs) all).1 (omega arith) taken

pub at_most_four : (n i : ℕ) → i < 79 → IfSome (slice_get built_ins i) (λ b. n ≡ b.1.1) → n ≤ 4
unfolding erlang_keys int_keys io_keys lists_keys
at_most_four n i within taken = taken_at 4 n i built_ins refl within taken
