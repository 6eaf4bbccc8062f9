-- A field at the front of some bytes: one space, the text of a value, and then a space or a newline.

use Rattle.std.specs.Prelude.{◌≡◌, ℕ, true, List, ◌∷◌, ◌++◌}
use Rattle.edb_fields.specs.Separators.{ends}
use Rattle.edb_fields.specs.declared.refusal.ReadError.{ReadError}
use Rattle.edb_fields.specs.declared.refusal.ReadError.TheVariants.{Memory, Refused}

-- The bytes begin with the field of this value, written by `text`, and go on with the rest. `Fits` is what is asked of
-- the value besides.
pub record IsFront {A : Type 0} (text : A → List ℕ) (Fits : A → Type 0) (bytes : List ℕ) (value : A) (rest : List ℕ) : Type 0 where
  pub parts : bytes ≡ 32 ∷ (text value ++ rest)
  pub closed : ends rest ≡ true
  pub fits : Fits value

-- no value's field is there
abbrev pub NoFront : {A : Type 0} → (A → List ℕ) → (A → Type 0) → List ℕ → Type 0
NoFront {A} text Fits bytes = (value : A) (rest : List ℕ) → IsFront text Fits bytes value rest → ⊥

-- why nothing was read: out of memory, which says nothing of the bytes; or they begin with no such field
abbrev pub Explains : {A : Type 0} → (A → List ℕ) → (A → Type 0) → List ℕ → ReadError → Type 0
Explains text Fits bytes Memory = Unit {0}
Explains text Fits bytes Refused = NoFront text Fits bytes

-- no bytes begin with the fields of two values, nor with one value's field in two ways
abbrev pub IsReadOnce : {A : Type 0} → (A → List ℕ) → (A → Type 0) → Type 0
IsReadOnce {A} text Fits =
    (bytes : List ℕ) (a b : A) (r s : List ℕ) → IsFront text Fits bytes a r → IsFront text Fits bytes b s → (a ≡ b) × (r ≡ s)

-- these bytes come first, and then the rest
abbrev pub Follows : List ℕ → List ℕ → List ℕ → Type 0
Follows front bytes rest = bytes ≡ front ++ rest

-- why they were not found: out of memory, which says nothing; or they do not come first
abbrev pub NotFollows : List ℕ → List ℕ → ReadError → Type 0
NotFollows front bytes Memory = Unit {0}
NotFollows front bytes Refused = (rest : List ℕ) → Follows front bytes rest → ⊥
