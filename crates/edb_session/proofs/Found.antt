-- What was found in equal bytes.

use Rattle.std.proofs.Common.{◌≡◌, ℕ, List, Option, None, Some, Result, Ok, Err, IfOk, IfSome, IfNone, MatchOption, subst, sym}
use Rattle.edb_lang.specs.Syntax.{ModuleTree}
use Rattle.edb_small.specs.SmallModule.{IsModule}

pub found_same : {E : Type 0} (a b : List ℕ) (r : Result (Option ModuleTree) E) → a ≡ b
    → IfOk r (λ o. IfSome o (λ m. IsModule a m)) → IfOk r (λ o. IfNone o ((m : ModuleTree) → IsModule a m → ⊥))
    → IfOk r (λ o. MatchOption o ((m : ModuleTree) → IsModule b m → ⊥) (λ m. IsModule b m))
found_same a b (Err e) same sound complete = tt
found_same a b (Ok None) same sound complete = λ m is. complete m (subst (λ (bytes : List ℕ). IsModule bytes m) (sym same) is)
found_same a b (Ok (Some m)) same sound complete = subst (λ (bytes : List ℕ). IsModule bytes m) same sound
