-- The tokens of a text: each integer fits, and there are no more of them than bytes.

use Rattle.std.proofs.Common.{ℕ, ◌+◌, ◌≤◌, Bool, List, [], ◌∷◌, length, Option, None, Some, sym, ap, subst, arith, length-append}
use Rattle.edb_scan.specs.declared.lexeme.Token.{Token}
use Rattle.edb_scan.specs.declared.lexeme.Token.TheVariants as token
use Rattle.edb_scan.specs.declared.lexeme.Placed.{Placed}
use Rattle.edb_scan.specs.Lexis.{Fits}
use Rattle.edb_scan.specs.Parting.{Parted, at_end, at_fault, next_piece, placed, line_after, AreTokens}
use Rattle.edb_scan.proofs.OnePiece.{begins_some}
use Rattle.edb_small.specs.Grammar.{Written, Agrees}
use Rattle.edb_small.proofs.Spelled.{Each}
use Rattle.edb_small.proofs.Complete.{IsFine, Meets, meets_length}

abbrev pub AllFine : List Placed → Type 0
AllFine ts = Each Placed (λ p. IsFine p.token) ts

fits_fine : (t : Token) → Fits (Some t) → IsFine t
fits_fine (token.Int n) h = h
fits_fine token.Float h = tt
fits_fine (token.Char c) h = tt
fits_fine (token.Atom a) h = tt
fits_fine (token.Var x) h = tt
fits_fine (token.Str s) h = tt
fits_fine (token.Mark m) h = tt
fits_fine token.Dot h = tt

placed_fine : (line : ℕ) (piece : Option Token) (ts : List Placed) → Fits piece → AllFine ts → AllFine (placed line piece ts)
placed_fine line None ts h all = all
placed_fine line (Some t) ts h all = (fits_fine t h, all)

placed_length : (line : ℕ) (piece : Option Token) (ts : List Placed) → length (placed line piece ts) ≤ length ts + 1
placed_length line None ts = omega arith
placed_length line (Some t) ts = omega arith

all_fine : (front rest : List ℕ) (behind : Bool) (ts : List Placed) (stop : Option ℕ) → Parted front behind rest ts stop → AllFine ts
all_fine front rest behind ts stop (at_end f b) = tt
all_fine front rest behind ts stop (at_fault f b r some none) = tt
all_fine front rest behind ts stop (next_piece f b r after next p us all stop' begins may n l parted) =
    subst (λ xs. AllFine xs) (sym l) (placed_fine (line_after f) p us may.0 (all_fine next after _ us stop' parted))

no_more : (front rest : List ℕ) (behind : Bool) (ts : List Placed) (stop : Option ℕ) → Parted front behind rest ts stop → length ts ≤ length rest
no_more front rest behind ts stop (at_end f b) = omega arith
no_more front rest behind ts stop (at_fault f b r some none) = omega arith
no_more front rest behind ts stop (next_piece f b r after next p us all stop' begins may n l parted) =
    omega (arith, no_more next after _ us stop' parted, placed_length (line_after f) p us, ap length l, ap length begins.cut, length-append begins.text after, begins_some r after p begins)

pub tokens_fine : (bytes : List ℕ) (ts : List Placed) → AreTokens bytes ts → AllFine ts
unfolding AreTokens
tokens_fine bytes ts h = all_fine [] bytes _ ts None h.1

pub tokens_few : (bytes : List ℕ) (ts : List Placed) → AreTokens bytes ts → length ts ≤ 1000000
unfolding AreTokens
tokens_few bytes ts h = omega (arith, no_more [] bytes _ ts None h.1, h.0)

pub meets_of : (ts : List Placed) (ws : List Written) → AllFine ts → Agrees ts ws → Meets ts ws
meets_of [] [] all h = tt
meets_of [] (w ∷ ws) all h = absurd h
meets_of (p ∷ ps) [] all h = absurd h
meets_of (p ∷ ps) (w ∷ ws) all h = (h.0, h.1, subst (λ t. IsFine t) h.0 all.0, meets_of ps ws all.1 h.2)

-- what is written keeps to the length of its text
pub written_few : (bytes : List ℕ) (ts : List Placed) (ws : List Written) → AreTokens bytes ts → Agrees ts ws → length ws ≤ 1000000
written_few bytes ts ws scanned agrees =
    omega (arith, meets_length ts ws (meets_of ts ws (tokens_fine bytes ts scanned) agrees), tokens_few bytes ts scanned)
