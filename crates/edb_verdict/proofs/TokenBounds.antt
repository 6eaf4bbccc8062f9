-- The tokens of a text are within the limits of tokens, and so are those of each of its forms.

use Rattle.std.proofs.Common.{ℕ, Bool, true, false, if◌then◌else◌, List, [], ◌∷◌, ◌++◌, Option, None, Some, sym, subst}
use Rattle.std.specs.List.{All, AllByRecursion}
use Rattle.std.proofs.lemmas.List.Elements.{All-nil, All-cons}
use Rattle.edb_scan.specs.declared.lexeme.Token.{Token}
use Rattle.edb_scan.specs.declared.lexeme.Placed.{Placed}
use Rattle.edb_scan.specs.Lexis.{Fits}
use Rattle.edb_scan.specs.Parting.{Parted, at_end, at_fault, next_piece, placed, line_after, AreTokens}
use Rattle.edb_syntax.specs.declared.modules.Export.{Export}
use Rattle.edb_syntax.specs.Syntax.{FunctionTree}
use Rattle.edb_grammar.specs.Toks.{Tok, tok, places, funs_with}
use Rattle.edb_grammar.specs.Forms.{ReadsForm, defines}
use Rattle.edb_grammar.specs.Files.{is_dot, with_first, forms_of, ReadsForms, no_forms, export_form, skipped_form, function_form}

abbrev IsFitToken : Placed → Type 0
IsFitToken p = Fits (Some p.token)

abbrev pub AreFitTokens : List Placed → Type 0
AreFitTokens ps = AllByRecursion IsFitToken ps

placed_fit : (line : ℕ) (piece : Option Token) (tokens : List Placed) → Fits piece → AreFitTokens tokens → AreFitTokens (placed line piece tokens)
placed_fit line None tokens fit rest = rest
placed_fit line (Some t) tokens fit rest = (fit, rest)

parted_fit : {front : List ℕ} {behind_string : Bool} {rest : List ℕ} {tokens : List Placed} {stop : Option ℕ} → Parted front behind_string rest tokens stop → AreFitTokens tokens
parted_fit (at_end front b) = tt
parted_fit (at_fault front b rest some none) = tt
parted_fit (next_piece front b rest after next piece tokens all_tokens stop begins may is all parted) =
    subst AreFitTokens (sym all) (placed_fit (line_after front) piece tokens may.0 (parted_fit parted))

pub tokens_fit : (text : List ℕ) (tokens : List Placed) → AreTokens text tokens → AreFitTokens tokens
unfolding AreTokens
tokens_fit text tokens are = parted_fit are.1

-- the forms of a file
abbrev pub AreFitForms : List (List Placed) → Type 0
AreFitForms forms = AllByRecursion AreFitTokens forms

with_first_fit : (t : Placed) (forms : List (List Placed)) → IsFitToken t → AreFitForms forms → AreFitForms (with_first t forms)
with_first_fit t [] fit all = ((fit, tt), tt)
with_first_fit t (form ∷ forms) fit all = ((fit, all.0), all.1)

pub forms_fit : (tokens : List Placed) → AreFitTokens tokens → AreFitForms (forms_of tokens)
forms_fit [] fit = tt
forms_fit (t ∷ ts) fit = by (is_dot t.token) (forms_of ts) (forms_fit ts fit.1)
  where
    by : (b : Bool) (forms : List (List Placed)) → AreFitForms forms → AreFitForms (if b then (t ∷ []) ∷ forms else with_first t forms)
    by true forms all = ((fit.0, tt), all)
    by false forms all = with_first_fit t forms fit.0 all

-- the tokens at their places, as the grammar sees them
abbrev IsFit : Tok → Type 0
IsFit (tok s t) = Fits (Some t)

abbrev pub AreFit : List Tok → Type 0
AreFit ts = AllByRecursion IsFit ts

pub places_fit : (n : ℕ) (tokens : List Placed) → AreFitTokens tokens → AreFit (places n tokens)
places_fit n [] fit = tt
places_fit n (t ∷ ts) fit = (fit.0, places_fit (funs_with n t.token) ts fit.1)

pub front_fit : (ts us : List Tok) → AreFit (ts ++ us) → AreFit ts
front_fit [] us fit = tt
front_fit (t ∷ ts) us fit = (fit.0, front_fit ts us fit.1)

pub behind_fit : (ts us : List Tok) → AreFit (ts ++ us) → AreFit us
behind_fit [] us fit = fit
behind_fit (t ∷ ts) us fit = behind_fit ts us fit.1

-- past a token behind them
pub past_fit : (ts : List Tok) (t : Tok) (us : List Tok) → AreFit (ts ++ t ∷ us) → AreFit us
past_fit ts t us fit = (behind_fit ts (t ∷ us) fit).1

-- What holds of each function that is read from tokens within their limits holds of all functions of a file.
pub functions_all : (P : FunctionTree → Type 0) → ((ts : List Tok) (f : FunctionTree) → ReadsForm ts (defines f) → AreFit ts → P f)
    → {n : ℕ} {forms : List (List Placed)} {xs : List Export} {fs : List FunctionTree} → ReadsForms n forms xs fs → AreFitForms forms → All P fs
functions_all P one no_forms fit = All-nil P
functions_all P one (export_form r rs) fit = functions_all P one rs fit.1
functions_all P one (skipped_form r rs) fit = functions_all P one rs fit.1
functions_all P one (function_form {n} {form} {f} {fs} r rs) fit =
    All-cons P f fs (one (places n form) f r (places_fit n form fit.0)) (functions_all P one rs fit.1)
