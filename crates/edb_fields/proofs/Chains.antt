-- Readings one after another, taken apart.

use Rattle.std.proofs.Common.{◌≡◌, ℕ, Bool, true, false, if◌then◌else◌, ◌&&◌, ◌==◌, List, [], ◌∷◌, Option, None, Some, unwrap_or, refl, ap, ◌∙◌}
use Rattle.std.proofs.lemmas.Bool.{eqb-true}
use Rattle.edb_fields.specs.Chain.{◌>>=◌}
use Rattle.edb_fields.specs.Reading.{first_at, byte_at, space_at}

pub none_some : {A : Type 0} {a : A} → None ≡ Some a → ⊥
none_some e = cc

pub same_some : {A : Type 0} {a b : A} → Some a ≡ Some b → a ≡ b
same_some {a = a} e = ap (λ o. unwrap_or o a) e

-- a chain that finds something: its first reading did, and so did the others
pub taken : {A B P : Type 0} {b : B} (o : Option A) (next : A → Option B) → (o >>= next) ≡ Some b → ((a : A) → o ≡ Some a → next a ≡ Some b → P) → P
taken (Some a) next e go = go a refl e
taken None next e go = absurd (none_some e)

-- a test that was passed
pub passed : {A : Type 0} {a b : A} (t : Bool) → (if t then Some a else None) ≡ Some b → (t ≡ true) × (a ≡ b)
passed true e = (refl, same_some e)
passed false e = absurd (none_some e)

-- a test, and what was read in either case
pub either_read : {A P : Type 0} {b : A} (t : Bool) (o u : Option A) → (if t then o else u) ≡ Some b → (t ≡ true → o ≡ Some b → P) → (t ≡ false → u ≡ Some b → P) → P
either_read true o u e one other = one refl e
either_read false o u e one other = other refl e

-- a value with the rest
abbrev pub got : {A : Type 0} → A → List ℕ → Option (A × List ℕ)
got a rest = Some (a, rest)

pub false_true : false ≡ true → ⊥
false_true e = cc

pub both : (a b : Bool) → (a && b) ≡ true → (a ≡ true) × (b ≡ true)
both true b e = (refl, e)
both false b e = absurd (false_true e)

pub first_is : (bytes : List ℕ) (c : ℕ) (rest : List ℕ) → first_at bytes ≡ Some (c, rest) → bytes ≡ c ∷ rest
first_is [] c rest e = absurd (none_some e)
first_is (d ∷ ds) c rest e = let p = same_some e in ap (λ x. x.0 ∷ x.1) p

pub byte_is : (b : ℕ) (bytes rest : List ℕ) → byte_at b bytes ≡ Some rest → bytes ≡ b ∷ rest
byte_is b [] rest e = absurd (none_some e)
byte_is b (c ∷ cs) rest e = let p = passed (c == b) e in ap (λ d. d ∷ cs) (eqb-true c b p.0) ∙ ap (λ ds. b ∷ ds) p.1

pub space_is : (bytes rest : List ℕ) → space_at bytes ≡ Some rest → bytes ≡ 32 ∷ rest
space_is bytes rest e = byte_is 32 bytes rest e
