-- Small lemmas on lists and tests.

use Rattle.std.proofs.Common.{◌≡◌, ℕ, zero, suc, Bool, true, false, if◌then◌else◌, List, [], ◌∷◌, Option, None, Some, slice_index_or, refl}
use Rattle.std.specs.List.{All}
use Rattle.std.proofs.lemmas.List.Elements.{All-head, All-tail}
use Rattle.std.proofs.lemmas.Option.{none-some}

-- where a test lets something through
pub when_some : {A : Type 0} (t : Bool) (o : Option A) (x : A) → (if t then o else None) ≡ Some x → (t ≡ true) × (o ≡ Some x)
when_some true o x e = (refl, e)
when_some false o x e = absurd (none-some x e)

-- an element of a list, or what stands for one past its end
pub each_or : {A : Type 0} (P : A → Type 0) (xs : List A) (d : A) → P d → All P xs → (n : ℕ) → P (slice_index_or xs n d)
each_or P [] d here all n = here
each_or P (x ∷ xs) d here all zero = All-head P x xs all
each_or P (x ∷ xs) d here all (suc n) = each_or P xs d here (All-tail P x xs all) n
