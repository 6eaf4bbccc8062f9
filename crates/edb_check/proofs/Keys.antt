-- Sets of keys, and lists of them.

use Rattle.std.specs.Prelude.{ℕ, ◌≤◌, nat_lt, not, codes, Bool, true, false, ◌&&◌, ◌||◌, ◌==◌, bytes_eq, cond, List, [], ◌∷◌, ◌++◌}
use Rattle.std.proofs.Common.{◌≡◌, refl, sym, ap, ◌∙◌, arith}
use Rattle.std.specs.List.{list_any, list_all}
use Rattle.std.specs.declared.cmp.Ordering.{Ordering}
use Rattle.std.specs.declared.cmp.Ordering.TheVariants.{Less, Equal, Greater}
use Rattle.std.specs.Ordering.{nat_cmp, ordering_then, is_eq}
use Rattle.std.specs.Cmp.{Equal-is, nat_cmp_is}
use Rattle.std.specs.Cmp.Lexicographic.{slice_cmp}
use Rattle.std.specs.FinMap.{nat_cmp-IsAntisymmetric}
use Rattle.std.specs.BTreeSet.{BTreeSet, contains, Updates}
use Rattle.std.proofs.lemmas.Bool.{and_parts}
use Rattle.std.proofs.lemmas.Bool.Decides.{nat_tests, same_from_decides, Decides-like, Decides-eqb}
use Rattle.std.proofs.lemmas.Cmp.{nat_list_eq_equiv, nat_eq_equiv}
use Rattle.std.proofs.lemmas.Map.Text.{is_eq-slice_cmp}
use Rattle.edb_table.specs.BuiltIns.{erlang_keys}
use Rattle.edb_table.specs.Keys.{Key, same_key}
use Rattle.edb_table.specs.Marking.{is_among, named_keys, guard_keys, is_auto, is_guard}
use Rattle.edb_check.specs.Functions.{is_defined}
use Rattle.edb_check.specs.Kept.{CodeKey, code_cmp, Kept}

is_eq-then : (o p : Ordering) → is_eq (ordering_then o p) ≡ (is_eq o && is_eq p)
is_eq-then Less p = refl
is_eq-then Equal p = refl
is_eq-then Greater p = refl

is_eq-nat_cmp : (m n : ℕ) → is_eq (nat_cmp m n) ≡ (m == n)
is_eq-nat_cmp m n =
    same_from_decides (is_eq (nat_cmp m n)) (m == n)
    (Decides-like (is_eq (nat_cmp m n)) (nat_cmp-IsAntisymmetric m n) (λ e. sym (nat_cmp_is m n Equal e)) (Equal-is (nat_cmp m n)))
    (Decides-eqb m n)

-- keys that compare as equal are one
code_same : (k q : CodeKey) → is_eq (code_cmp k q) ≡ same_key (q.0.now, q.1) (k.0.now, k.1)
code_same k q =
    is_eq-then (slice_cmp nat_cmp k.0.now q.0.now) (nat_cmp k.1 q.1)
    ∙ ap (λ b. b && is_eq (nat_cmp k.1 q.1)) (is_eq-slice_cmp k.0.now q.0.now ∙ nat_list_eq_equiv.symm k.0.now q.0.now)
    ∙ ap (λ b. bytes_eq q.0.now k.0.now && b) (is_eq-nat_cmp k.1 q.1 ∙ nat_eq_equiv.symm k.1 q.1)

any-append : (q : Key) (keys : List Key) (k : Key) → is_defined (keys ++ k ∷ []) q ≡ cond (same_key q k) true (is_defined keys q)
any-append q [] k = by (same_key q k)
  where
    by : (b : Bool) → (b || false) ≡ cond b true false
    by true = refl
    by false = refl
any-append q (d ∷ keys) k = ap (λ b. same_key q d || b) (any-append q keys k) ∙ by (same_key q d) (same_key q k)
  where
    by : (b c : Bool) → (b || cond c true (is_defined keys q)) ≡ cond c true (b || is_defined keys q)
    by true true = refl
    by true false = refl
    by false true = refl
    by false false = refl

-- a key is put into the set, and behind the list
pub kept_more : (old new : BTreeSet CodeKey) (keys : List Key) (k : CodeKey) → Updates code_cmp old new k true → Kept old keys → Kept new (keys ++ (k.0.now, k.1) ∷ [])
kept_more old new keys k updates kept q =
    updates.0 q
    ∙ ap (λ b. cond b true (contains code_cmp old q)) (code_same k q)
    ∙ ap (cond (same_key (q.0.now, q.1) (k.0.now, k.1)) true) (kept q)
    ∙ sym (any-append (q.0.now, q.1) keys (k.0.now, k.1))

-- no built-in has more than 255 parameters
no_key : (f : List ℕ) (n : ℕ) → 256 ≤ n → (keys : List Key) → list_all (λ k. nat_lt k.1 256) keys ≡ true → list_any (same_key (f, n)) keys ≡ false
no_key f n le [] all = refl
no_key f n le (k ∷ keys) all =
    let both = and_parts (nat_lt k.1 256) (list_all (λ k. nat_lt k.1 256) keys) all in
    let lt = both.0 in
    let other : (n == k.1) ≡ false = grind (arith, nat_tests) in
    rw (other, no_key f n le keys both.1) (by (bytes_eq f k.0))
  where
    by : (b : Bool) → ((b && false) || false) ≡ false
    by true = refl
    by false = refl

pub no_auto : (f : List ℕ) (n : ℕ) → 256 ≤ n → false ≡ is_auto (codes "erlang", (f, n))
unfolding erlang_keys
no_auto f n le = sym (ap (λ b. b && not (is_among (codes "erlang") named_keys (codes "erlang", (f, n)))) (no_key f n le erlang_keys refl))

pub no_guard_test : (h f : List ℕ) (n : ℕ) → 256 ≤ n → false ≡ is_guard (h, (f, n))
unfolding guard_keys
no_guard_test h f n le = by (bytes_eq h (codes "erlang")) ∙ ap (λ b. bytes_eq h (codes "erlang") && b) (sym (no_key f n le guard_keys refl))
  where
    by : (b : Bool) → false ≡ (b && false)
    by true = refl
    by false = refl
