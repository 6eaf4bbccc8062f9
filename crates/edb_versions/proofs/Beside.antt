-- What stands beside a name in two lists, one behind the other.

use Rattle.std.proofs.Common.{◌≡◌, ◌∙◌, ℕ, Bool, true, false, if◌then◌else◌, List, [], ◌∷◌, ◌++◌, map, Option, None, Some, refl, sym, ap}
use Rattle.edb_lang.specs.TermText.{same_name}
use Rattle.edb_check.specs.declared.checked.Checked.{Checked}
use Rattle.edb_syntax.specs.Lookup.{first_versions}
use Rattle.edb_moves.specs.Versions.{version_beside, version_for}

-- the first, and else the second
abbrev pub first_of : Option ℕ → Option ℕ → Option ℕ
first_of (Some k) o = Some k
first_of None o = o

in_either : (m : List ℕ) (ps qs : List (List ℕ × ℕ)) → version_beside m (ps ++ qs) ≡ first_of (version_beside m ps) (version_beside m qs)
in_either m [] qs = refl
in_either m (p ∷ ps) qs = choice (same_name p.0 m) (in_either m ps qs)
  where
    choice : (b : Bool) → version_beside m (ps ++ qs) ≡ first_of (version_beside m ps) (version_beside m qs) → (if b then Some p.1 else version_beside m (ps ++ qs)) ≡ first_of (if b then Some p.1 else version_beside m ps) (version_beside m qs)
    choice true rest = refl
    choice false rest = rest

pub by_a_body : (m : List ℕ) (running current : List (List ℕ × ℕ)) (k : ℕ) → Some k ≡ version_beside m running → Some k ≡ version_for current running m
by_a_body m running current k e = ap (λ o. first_of o (version_beside m current)) e ∙ sym (in_either m running current)

pub by_the_current : (m : List ℕ) (running current : List (List ℕ × ℕ)) (o : Option ℕ) → None ≡ version_beside m running → o ≡ version_beside m current → o ≡ version_for current running m
by_the_current m running current o e f = f ∙ ap (λ r. first_of r (version_beside m current)) e ∙ sym (in_either m running current)

pub firsts_of_checked : (xs : List Checked) → map (λ x. (x.«module».name, 1)) xs ≡ first_versions (map (λ x. x.«module») xs)
firsts_of_checked [] = refl
firsts_of_checked (x ∷ xs) = ap (λ ps. (x.«module».name, 1) ∷ ps) (firsts_of_checked xs)
