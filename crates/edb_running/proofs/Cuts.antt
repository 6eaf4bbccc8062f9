-- Pairs that go, and values that stay.

use Rattle.std.proofs.Common.{◌≡◌, ◌≤◌, ◌<◌, ◌-◌, ◌+◌, ℕ, List, [], ◌∷◌, ◌++◌, length, Some, ap, sym, subst, ◌∙◌, arith}
use Rattle.edb_lang.specs.Terms.{Datum}
use Rattle.edb_lang.specs.Pairs.{Pairs}
use Rattle.edb_variables.specs.PairStacks.{oldest, value_at}
use Rattle.edb_variables.proofs.Stacks.{value_at-newest}
use Rattle.edb_stack.proofs.MarkLaws.{take_front, oldest_behind, value_behind, length_oldest}

-- the oldest of the oldest
pub oldest_oldest : (m n : ℕ) (a : Pairs) → m ≤ n → n ≤ length a → oldest m (oldest n a) ≡ oldest m a
oldest_oldest m n a h g =
    let r : (new : Pairs) × (new ++ oldest n a ≡ a) = take_front (length a - n) a in
    sym (oldest_behind m r.0 (oldest n a) (subst (λ k. m ≤ k) (sym (length_oldest n a g)) h)) ∙ ap (oldest m) r.1

pub value_oldest : (k n : ℕ) (a : Pairs) → k < n → n ≤ length a → value_at k (oldest n a) ≡ value_at k a
value_oldest k n a h g =
    let r : (new : Pairs) × (new ++ oldest n a ≡ a) = take_front (length a - n) a in
    sym (value_behind k r.0 (oldest n a) (subst (λ j. k < j) (sym (length_oldest n a g)) h)) ∙ ap (value_at k) r.1

-- THE PAIR AT A PLACE, where all newer ones are gone
pub popped : (k m : ℕ) (a rest : Pairs) (p : List ℕ × Datum) → k < length a → oldest (k + 1) a ≡ p ∷ rest → m ≤ k → (value_at k a ≡ Some p.1) × (oldest m rest ≡ oldest m a)
popped k m a rest p h e g =
    let short : k + 1 ≤ length a = omega (arith, h) in
    let count : length rest ≡ k = omega (arith, sym (length_oldest (k + 1) a short) ∙ ap length e) in
    let below : k < k + 1 = omega arith in
    let few : m ≤ length rest = omega (arith, g, count) in
    let less : m ≤ k + 1 = omega (arith, g) in (
      sym (value_oldest k (k + 1) a below short) ∙ ap (value_at k) e ∙ ap (λ j. value_at j (p ∷ rest)) (sym count) ∙ value_at-newest p rest,
      sym (oldest_behind m (p ∷ []) rest few) ∙ ap (oldest m) (sym e) ∙ oldest_oldest m (k + 1) a less short,
    )
