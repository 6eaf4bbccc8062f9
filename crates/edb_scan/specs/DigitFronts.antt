-- What the functions on numbers answer: the digits at the front of a text, and what may come after them.
use Rattle.std.specs.Prelude.{◌≡◌, ℕ, ◌≤◌, Bool, true, false, ◌||◌, ◌==◌, ◌⊎◌, List, [], ◌∷◌, ◌++◌}
use Rattle.std.specs.Char.{is_digit}
use Rattle.edb_scan.specs.Fronts.{Stops}
use Rattle.edb_scan.specs.Numerals.{Digits, IsDigits}

-- the text does not go on with a digit, nor with a `_` and a digit
abbrev pub EndsDigits : (ℕ → Bool) → List ℕ → Type 0
EndsDigits p [] = Unit {0}
EndsDigits p (c ∷ []) = p c ≡ false
EndsDigits p (c ∷ d ∷ ds) = (p c ≡ false) × (c ≡ 95 → p d ≡ false)

-- the text's front of digits, and what comes after it
pub record SplitsDigits (p : ℕ → Bool) (bytes run after : List ℕ) : Type 0 where
  pub cut : bytes ≡ run ++ after
  pub digits : Digits p run
  pub ends : EndsDigits p after

-- one more digit, or a `_` and one more digit
abbrev pub IsStep : (ℕ → Bool) → List ℕ → List ℕ → Type 0
IsStep p rest after = ((c : ℕ) × (p c ≡ true) × (rest ≡ c ∷ after)) ⊎ ((c : ℕ) × (p c ≡ true) × (rest ≡ 95 ∷ c ∷ after))

abbrev pub is_sign_byte : ℕ → Bool
is_sign_byte c = c == 43 || c == 45

-- what comes after a sign, or the text itself if it begins with none
abbrev pub SplitsSign : List ℕ → List ℕ → Type 0
SplitsSign bytes rest = ((c : ℕ) × (bytes ≡ c ∷ rest) × ((c ≡ 43) ⊎ (c ≡ 45))) ⊎ ((rest ≡ bytes) × Stops is_sign_byte bytes)

-- after a base, a `#` and digits of it
pub record IsBasedTail (base : ℕ) (tail digits after : List ℕ) : Type 0 where
  pub cut : tail ≡ 35 ∷ (digits ++ after)
  pub at_least_two : 2 ≤ base
  pub at_most_36 : base ≤ 36
  pub its_digits : IsDigits base digits
  pub ends : EndsDigits (λ c. is_digit c base) after

abbrev pub NoBasedTail : ℕ → List ℕ → Type 0
NoBasedTail base tail = (digits after : List ℕ) → tail ≡ 35 ∷ (digits ++ after) → 2 ≤ base → base ≤ 36 → IsDigits base digits → ⊥
