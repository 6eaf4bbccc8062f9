-- What was written is read, unless memory runs out.

use Rattle.std.proofs.Common.{◌≡◌, ℕ, List, Option, Some, Result, Ok, Err, refl, sym, ap, ◌∙◌}
use Rattle.std.specs.Prelude.{MatchResult}
use Rattle.edb_fields.specs.Answers.{Gives}
use Rattle.edb_fields.specs.declared.refusal.ReadError.{ReadError}
use Rattle.edb_fields.specs.declared.refusal.ReadError.TheVariants.{Memory, Refused}
use Rattle.edb_fields.proofs.Chains.{none_some, same_some}

pub written_told : {X A : Type 0} (value : X → A) (rest : X → List ℕ) (read : Option (A × List ℕ)) (a : A) (after : List ℕ) → read ≡ Some (a, after)
    → (r : Result X ReadError) → Gives (λ x. (value x, rest x)) r read → MatchResult r (λ x. (value x ≡ a) × (rest x ≡ after)) (λ e. e ≡ Memory)
written_told value rest read a after is (Ok x) e = let p = same_some (sym e ∙ is) in (ap (λ y. y.0) p, ap (λ y. y.1) p)
written_told value rest read a after is (Err Memory) h = refl
written_told value rest read a after is (Err Refused) h = absurd (none_some (sym h ∙ is))
