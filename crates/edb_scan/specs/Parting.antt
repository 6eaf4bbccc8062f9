-- A text parted into its tokens, each with its line, up to its end or its first fault.
use Rattle.std.specs.Prelude.{◌≡◌, ◌≢◌, ℕ, ◌+◌, ◌<◌, ◌≤◌, Bool, false, ◌==◌, ◌⊎◌, List, [], ◌∷◌, ◌++◌, length, count_by, Option, Some, None}
use Rattle.edb_scan.specs.declared.lexeme.Token.{Token}
use Rattle.edb_scan.specs.declared.lexeme.Placed.{Placed}
use Rattle.edb_scan.specs.Lexis.{Begins, MayStand, is_string}

-- the line of what comes after these bytes: 1 plus the newlines among them
unfoldable pub line_after : List ℕ → ℕ
line_after front = 1 + count_by (λ c. c == 10) front

-- the tokens with a piece at their head; white space and comments leave no token
abbrev pub placed : ℕ → Option Token → List Placed → List Placed
placed line None tokens = tokens
placed line (Some t) tokens = record { line = line; token = t } ∷ tokens

-- After `front`, whose last piece was a string or not, `rest` parts into these tokens, up to its end
-- or up to the fault at an offset of the whole text: the first byte at which no piece may begin.
pub data Parted : List ℕ → Bool → List ℕ → List Placed → Option ℕ → Type 0 where
  at_end : (front : List ℕ) (behind_string : Bool) → Parted front behind_string [] [] None
  at_fault : (front : List ℕ) (behind_string : Bool) (rest : List ℕ) → rest ≢ []
      → ((after : List ℕ) (piece : Option Token) → Begins rest after piece → MayStand behind_string piece → ⊥)
      → Parted front behind_string rest [] (Some (length front))
  next_piece : (front : List ℕ) (behind_string : Bool) (rest after next : List ℕ) (piece : Option Token) (tokens all_tokens : List Placed) (stop : Option ℕ)
      → (begins : Begins rest after piece) → MayStand behind_string piece
      → next ≡ front ++ begins.text → all_tokens ≡ placed (line_after front) piece tokens
      → Parted next (is_string piece) after tokens stop
      → Parted front behind_string rest all_tokens stop

-- the text's first fault lies here
unfoldable pub FaultAt : List ℕ → ℕ → Type 0
FaultAt bytes at = (tokens : List Placed) × Parted [] false bytes tokens (Some at)

-- how many bytes a file may have
abbrev pub longest_file : ℕ
longest_file = 1_000_000

-- the text is not too long, and these are its tokens
unfoldable pub AreTokens : List ℕ → List Placed → Type 0
AreTokens bytes tokens = (length bytes ≤ longest_file) × Parted [] false bytes tokens None

-- the answer's fault: the text's first one if it is below the limit; in a text that is too long and has none there, the limit
unfoldable pub IsFault : List ℕ → ℕ → Type 0
IsFault bytes at =
    (FaultAt bytes at × (at < longest_file))
    ⊎ ((longest_file < length bytes) × (at ≡ longest_file) × ((k : ℕ) → FaultAt bytes k → longest_file ≤ k))
