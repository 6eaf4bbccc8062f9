-- What the scanner's functions answer: the piece that begins a text, or the longest front of some kind.
use Rattle.std.specs.Prelude.{◌≡◌, ℕ, ◌≤◌, Bool, true, false, List, [], ◌∷◌, ◌++◌, length, Option, MatchOption}
use Rattle.std.specs.Borrow.{Bor}
use Rattle.std.specs.List.{list_all}
use Rattle.edb_scan.specs.declared.lexeme.Token.{Token}
use Rattle.edb_scan.specs.Lexis.{Begins, Fits, MayStand}

-- no piece within its limits begins the text
abbrev pub NothingFits : List ℕ → Type 0
NothingFits rest = (after : List ℕ) (piece : Option Token) → Begins rest after piece → Fits piece → ⊥

-- the piece that begins the text, and what comes after it; None if none within its limits does
abbrev pub Finds : List ℕ → Option (Option Token × Bor (List ℕ)) → Type 0
Finds rest found = MatchOption found (NothingFits rest) (λ x. Begins rest x.1.now x.0 × Fits x.0)

-- no piece may begin the text
abbrev pub NoneStands : Bool → List ℕ → Type 0
NoneStands behind_string rest = (after : List ℕ) (piece : Option Token) → Begins rest after piece → MayStand behind_string piece → ⊥

-- this piece may
abbrev pub Stands : Bool → List ℕ → Option Token → List ℕ → Type 0
Stands behind_string rest piece after = Begins rest after piece × MayStand behind_string piece

-- the text's longest front of this kind, and what comes after it
pub record LongestFront (P : List ℕ → Type 0) (bytes after : List ℕ) : Type 0 where
  pub text : List ℕ
  pub cut : bytes ≡ text ++ after
  pub is : P text
  pub longest : (front behind : List ℕ) → bytes ≡ front ++ behind → P front → length front ≤ length text

abbrev pub FindsFront : (List ℕ → Type 0) → List ℕ → Option (Bor (List ℕ)) → Type 0
FindsFront P bytes found = MatchOption found ((front behind : List ℕ) → bytes ≡ front ++ behind → P front → ⊥) (λ after. LongestFront P bytes after.now)

-- the text does not go on with such a byte
abbrev pub Stops : (ℕ → Bool) → List ℕ → Type 0
Stops p [] = Unit {0}
Stops p (c ∷ cs) = p c ≡ false

-- the text's front of bytes that pass the test, and what comes after it
pub record SplitsRun (p : ℕ → Bool) (bytes run after : List ℕ) : Type 0 where
  pub cut : bytes ≡ run ++ after
  pub passes : list_all p run ≡ true
  pub stops : Stops p after
