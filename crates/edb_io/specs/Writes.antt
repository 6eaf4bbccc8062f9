-- What a write does to the bytes of a sink, where the sink tells them.
use Rattle.std.specs.Prelude.{◌≡◌, ℕ, List, ◌++◌, Some}
use Rattle.std.specs.declared.option.Option.{Option}

-- `start` is how `bytes` begins.
abbrev pub IsPrefix : List ℕ → List ℕ → Type 0
IsPrefix start bytes = (rest : List ℕ) × (start ++ rest ≡ bytes)

-- The sink has what it had, and then the piece.
abbrev pub Appended : Option (List ℕ) → Option (List ℕ) → List ℕ → Type 0
Appended old new piece = (had : List ℕ) → old ≡ Some had → new ≡ Some (had ++ piece)

-- The sink has what it had, and then a prefix of the piece.
abbrev pub AppendedPart : Option (List ℕ) → Option (List ℕ) → List ℕ → Type 0
AppendedPart old new piece =
    (had : List ℕ) → old ≡ Some had → (part : List ℕ) × IsPrefix part piece × (new ≡ Some (had ++ part))
