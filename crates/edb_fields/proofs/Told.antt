-- What a reader's answer tells, where the definition that it mirrors is exact.

use Rattle.std.proofs.Common.{◌≡◌, ℕ, List, Option, Some, Result, Ok, Err, IfOk, IfErr, sym, ap, ◌∙◌}
use Rattle.edb_fields.specs.Answers.{Gives}
use Rattle.edb_fields.specs.Fronts.{IsFront, Explains, IsReadOnce, Follows, NotFollows}
use Rattle.edb_fields.specs.declared.refusal.ReadError.{ReadError}
use Rattle.edb_fields.specs.declared.refusal.ReadError.TheVariants.{Memory, Refused}
use Rattle.edb_fields.proofs.Chains.{none_some, same_some}

-- what a definition finds at some bytes is a field, and each field is found
pub record Exact {A : Type 0} (text : A → List ℕ) (Fits : A → Type 0) (bytes : List ℕ) (read : Option (A × List ℕ)) : Type 0 where
  pub sound : (a : A) (rest : List ℕ) → read ≡ Some (a, rest) → IsFront text Fits bytes a rest
  pub complete : (a : A) (rest : List ℕ) → IsFront text Fits bytes a rest → read ≡ Some (a, rest)

pub found_told : {X A : Type 0} (text : A → List ℕ) (Fits : A → Type 0) (bytes : List ℕ) (value : X → A) (rest : X → List ℕ) (read : Option (A × List ℕ))
    → Exact text Fits bytes read → (r : Result X ReadError) → Gives (λ x. (value x, rest x)) r read → IfOk r (λ x. IsFront text Fits bytes (value x) (rest x))
found_told text Fits bytes value rest read exact (Ok x) e = exact.sound (value x) (rest x) e
found_told text Fits bytes value rest read exact (Err e) h = tt

pub none_told : {X A : Type 0} (text : A → List ℕ) (Fits : A → Type 0) (bytes : List ℕ) (view : X → A × List ℕ) (read : Option (A × List ℕ))
    → Exact text Fits bytes read → (r : Result X ReadError) → Gives view r read → IfErr r (λ e. Explains text Fits bytes e)
none_told text Fits bytes view read exact (Ok x) e = tt
none_told text Fits bytes view read exact (Err Memory) h = tt
none_told text Fits bytes view read exact (Err Refused) h = λ a rest front. none_some (sym h ∙ exact.complete a rest front)

-- what a definition finds at some bytes comes after these, and what comes after them is found
pub record Parts (front bytes : List ℕ) (read : Option (List ℕ)) : Type 0 where
  pub sound : (rest : List ℕ) → read ≡ Some rest → Follows front bytes rest
  pub complete : (rest : List ℕ) → Follows front bytes rest → read ≡ Some rest

pub follows_told : {X : Type 0} (front bytes : List ℕ) (view : X → List ℕ) (read : Option (List ℕ)) → Parts front bytes read
    → (r : Result X ReadError) → Gives view r read → IfOk r (λ x. Follows front bytes (view x))
follows_told front bytes view read parts (Ok x) e = parts.sound (view x) e
follows_told front bytes view read parts (Err e) h = tt

pub not_follows_told : {X : Type 0} (front bytes : List ℕ) (view : X → List ℕ) (read : Option (List ℕ)) → Parts front bytes read
    → (r : Result X ReadError) → Gives view r read → IfErr r (λ e. NotFollows front bytes e)
not_follows_told front bytes view read parts (Ok x) e = tt
not_follows_told front bytes view read parts (Err Memory) h = tt
not_follows_told front bytes view read parts (Err Refused) h = λ rest follows. none_some (sym h ∙ parts.complete rest follows)

-- what is found is all that could be
pub once_told : {A : Type 0} (text : A → List ℕ) (Fits : A → Type 0) (read : List ℕ → Option (A × List ℕ)) → ((bytes : List ℕ) → Exact text Fits bytes (read bytes))
    → IsReadOnce text Fits
once_told text Fits read exact = λ bytes a b r s x y.
    let p = same_some (sym ((exact bytes).complete a r x) ∙ (exact bytes).complete b s y) in
    (ap (λ z. z.0) p, ap (λ z. z.1) p)
