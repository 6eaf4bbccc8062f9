-- A module is within its bounds: each name stands as a token, and a token keeps to the limits; and no function has more
-- parameters than the text has tokens.

use Rattle.std.proofs.Common.{ℕ, ◌≤◌, Bool, List, [], ◌∷◌, ◌++◌, length, Option, None, Some, sym, subst, arith}
use Rattle.std.specs.List.{All}
use Rattle.std.proofs.lemmas.List.Elements.{All-nil, All-cons}
use Rattle.edb_lang.specs.Syntax.{FunctionTree, ModuleTree}
use Rattle.edb_scan.specs.declared.lexeme.Token.{Token}
use Rattle.edb_scan.specs.declared.lexeme.Placed.{Placed}
use Rattle.edb_scan.specs.declared.lexeme.Mark.TheVariants as mark
use Rattle.edb_scan.specs.Lexis.{Fits}
use Rattle.edb_scan.specs.Parting.{Parted, at_end, at_fault, next_piece, placed, line_after, AreTokens}
use Rattle.edb_small.specs.Grammar.{Written, sign, dot, written_function, written_functions, written_exports, written_module, Agrees}
use Rattle.edb_small.specs.SmallModule.{IsModule}
use Rattle.edb_small.specs.Bounds.{IsBoundedFunction, IsBounded}
use Rattle.edb_small.proofs.Spelled.{Each}
use Rattle.edb_small.proofs.Texts.{written_few}
use Rattle.edb_small.proofs.Small.{functions_few, functions_within}

-- tokens that keep to the limits
abbrev AllFit : List Placed → Type 0
AllFit [] = Unit {0}
AllFit (p ∷ ps) = Fits (Some p.token) × AllFit ps

abbrev AllWrittenFit : List Written → Type 0
AllWrittenFit [] = Unit {0}
AllWrittenFit (w ∷ ws) = Fits (Some w.1) × AllWrittenFit ws

placed_fit : (line : ℕ) (piece : Option Token) (tokens : List Placed) → Fits piece → AllFit tokens → AllFit (placed line piece tokens)
placed_fit line None tokens fit rest = rest
placed_fit line (Some t) tokens fit rest = (fit, rest)

parted_fit : (front : List ℕ) (behind_string : Bool) (rest : List ℕ) (tokens : List Placed) (stop : Option ℕ) → Parted front behind_string rest tokens stop → AllFit tokens
parted_fit _ _ _ _ _ (at_end front b) = tt
parted_fit _ _ _ _ _ (at_fault front b rest some none) = tt
parted_fit _ _ _ _ _ (next_piece front b rest after next piece tokens all_tokens stop begins may is all parted) =
    subst AllFit (sym all) (placed_fit (line_after front) piece tokens may.0 (parted_fit _ _ _ _ _ parted))

tokens_fit : (bytes : List ℕ) (tokens : List Placed) → AreTokens bytes tokens → AllFit tokens
unfolding AreTokens
tokens_fit bytes tokens are = parted_fit _ _ _ _ _ are.1

agreed_fit : (ps : List Placed) (ws : List Written) → AllFit ps → Agrees ps ws → AllWrittenFit ws
agreed_fit [] [] fit agrees = tt
agreed_fit [] (w ∷ ws) fit agrees = absurd agrees
agreed_fit (p ∷ ps) [] fit agrees = absurd agrees
agreed_fit (p ∷ ps) (w ∷ ws) fit agrees = (subst (λ (t : Token). Fits (Some t)) agrees.0 fit.0, agreed_fit ps ws fit.1 agrees.2)

later_fit : (xs ys : List Written) → AllWrittenFit (xs ++ ys) → AllWrittenFit ys
later_fit [] ys fit = fit
later_fit (x ∷ xs) ys fit = later_fit xs ys fit.1

abbrev HasFew : FunctionTree → Type 0
HasFew f = length f.parameters ≤ 1000000

functions_bounded : (fs : List FunctionTree) → AllWrittenFit (written_functions fs) → Each FunctionTree HasFew fs → All IsBoundedFunction fs
functions_bounded [] fit few = All-nil IsBoundedFunction
functions_bounded (f ∷ fs) fit few =
    let first : HasFew f = few.0 in
    All-cons IsBoundedFunction f fs (fit.0, omega arith) (functions_bounded fs (later_fit (written_function f) (written_functions fs) fit) few.1)

written_bounded : (m : ModuleTree) → AllWrittenFit (written_module m) → length (written_module m) ≤ 1000000 → IsBounded m
written_bounded m fit few = (
  fit.1.1.1.0,
  let end : List Written = sign mark.BracketClose ∷ (sign mark.ParenClose ∷ (dot ∷ written_functions m.functions)) in
      functions_bounded m.functions (later_fit (written_exports m.exports) end fit.1.1.1.1.1.1.1.1.1.1).1.1.1
      (functions_few m.functions 1000000 (omega (arith, functions_within m, few))),
)

pub module_bounded : (bytes : List ℕ) (m : ModuleTree) → IsModule bytes m → IsBounded m
module_bounded bytes m is =
    written_bounded m (agreed_fit is.tokens (written_module m) (tokens_fit bytes is.tokens is.scanned) is.spelled)
    (written_few bytes is.tokens (written_module m) is.scanned is.spelled)
