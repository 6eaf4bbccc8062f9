-- Integers and numbers with a fraction.
use Rattle.std.specs.Prelude.{◌≡◌, ℕ, ◌+◌, ◌*◌, ◌≤◌, Bool, true, cond, ◌==◌, ◌⊎◌, List, [], ◌∷◌, ◌++◌}
use Rattle.std.specs.Char.{digit_value, is_digit}

-- the text is digits, each of which passes the test, with single `_` between them
abbrev pub Digits : (ℕ → Bool) → List ℕ → Type 0
Digits p [] = ⊥
Digits p (c ∷ []) = p c ≡ true
Digits p (c ∷ d ∷ ds) = (p c ≡ true) × (Digits p (d ∷ ds) ⊎ ((d ≡ 95) × Digits p ds))

-- digits of this base, as letters from ten on, upper or lower case
abbrev pub IsDigits : ℕ → List ℕ → Type 0
IsDigits base text = Digits (λ c. is_digit c base) text

-- the number that digits of this base write after those that wrote n; each `_` is passed over
abbrev pub number_after : ℕ → ℕ → List ℕ → ℕ
number_after base n [] = n
number_after base n (c ∷ cs) = cond (c == 95) (number_after base n cs) (number_after base (n * base + digit_value c) cs)

abbrev pub number : ℕ → List ℕ → ℕ
number base text = number_after base 0 text

-- `B#D`: a base from 2 to 36, which is itself an integer, and digits of it
pub record IsBased (text : List ℕ) (n : ℕ) : Type 0 where
  pub base : List ℕ
  pub digits : List ℕ
  pub cut : text ≡ base ++ (35 ∷ digits)
  pub base_digits : IsDigits 10 base
  pub at_least_two : 2 ≤ number 10 base
  pub at_most_36 : number 10 base ≤ 36
  pub its_digits : IsDigits (number 10 base) digits
  pub value : n ≡ number (number 10 base) digits

-- an integer, of any size
abbrev pub IsInteger : List ℕ → ℕ → Type 0
IsInteger text n = (IsDigits 10 text × (n ≡ number 10 text)) ⊎ IsBased text n

-- a sign, or none
abbrev pub IsSign : List ℕ → Type 0
IsSign text = (text ≡ []) ⊎ (text ≡ 43 ∷ []) ⊎ (text ≡ 45 ∷ [])

-- `e` or `E`, a sign or none, and digits
pub record IsPower (text : List ℕ) : Type 0 where
  pub letter : ℕ
  pub sign : List ℕ
  pub digits : List ℕ
  pub cut : text ≡ letter ∷ (sign ++ digits)
  pub is_e : (letter ≡ 101) ⊎ (letter ≡ 69)
  pub is_sign : IsSign sign
  pub are_digits : IsDigits 10 digits

-- a point, digits, and a power or none
pub record IsFraction (text : List ℕ) : Type 0 where
  pub digits : List ℕ
  pub power : List ℕ
  pub cut : text ≡ 46 ∷ (digits ++ power)
  pub are_digits : IsDigits 10 digits
  pub power_or_none : (power ≡ []) ⊎ IsPower power

-- digits, and a fraction directly after them
pub record IsFloat (text : List ℕ) : Type 0 where
  pub whole : List ℕ
  pub fraction : List ℕ
  pub cut : text ≡ whole ++ fraction
  pub whole_digits : IsDigits 10 whole
  pub is_fraction : IsFraction fraction
