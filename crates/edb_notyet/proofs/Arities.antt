-- No built-in has more than 255 parameters.

use Rattle.std.specs.Prelude.{ℕ, ◌≤◌, nat_lt, codes, Bool, true, false, ◌&&◌, ◌==◌, bytes_eq, List, [], ◌∷◌}
use Rattle.std.proofs.Common.{◌≡◌, refl, arith}
use Rattle.std.specs.List.{list_any, list_all}
use Rattle.std.proofs.lemmas.Bool.{and_parts}
use Rattle.std.proofs.lemmas.Bool.Decides.{nat_tests}
use Rattle.edb_table.specs.BuiltIns.{io_keys}
use Rattle.edb_table.specs.Keys.{Key, same_key}
use Rattle.edb_table.specs.Marking.{act_keys, is_shared}
use Rattle.edb_notyet.specs.Calls.{built_in_is_beyond}

and_false : (b : Bool) → (b && false) ≡ false
and_false true = refl
and_false false = refl

-- keys of fewer parameters
no_key : (f : List ℕ) (n : ℕ) → 256 ≤ n → (keys : List Key) → list_all (λ k. nat_lt k.1 256) keys ≡ true → list_any (same_key (f, n)) keys ≡ false
no_key f n le [] all = refl
no_key f n le (k ∷ keys) all =
    let both = and_parts (nat_lt k.1 256) (list_all (λ k. nat_lt k.1 256) keys) all in
    let other : (n == k.1) ≡ false = grind (arith, nat_tests) in
    rw (other, no_key f n le keys both.1, and_false (bytes_eq f k.0)) refl

no_shared : (h f : List ℕ) (n : ℕ) → 256 ≤ n → is_shared (h, (f, n)) ≡ false
unfolding act_keys io_keys
no_shared h f n le =
    rw (no_key f n le act_keys refl, no_key f n le io_keys refl, and_false (bytes_eq h (codes "erlang")), and_false (bytes_eq h (codes "io"))) refl

pub no_built_in : (h f : List ℕ) (n : ℕ) → 256 ≤ n → built_in_is_beyond (h, (f, n)) ≡ false
no_built_in h f n le = rw (no_shared h f n le) refl

-- so it is no call without a module either
pub no_imported : (own auto : Bool) (f : List ℕ) (n : ℕ) → 256 ≤ n → (own && (auto && built_in_is_beyond (codes "erlang", (f, n)))) ≡ false
no_imported own auto f n le = rw (no_built_in (codes "erlang") f n le, and_false auto, and_false own) refl
