-- Spellings, as lists of things behind one another.

use Rattle.std.proofs.Common.{◌≡◌, Bool, true, false, List, [], ◌∷◌, ◌++◌, Option, None, Some, refl, sym, ap}
use Rattle.std.specs.Prelude.{◌&&◌}
use Rattle.std.proofs.lemmas.List.{append-nil}
use Rattle.std.specs.Option.{option_and_then}
use Rattle.edb_lang.specs.Syntax.{Pat, Exp, exps_of, FunctionTree}
use Rattle.edb_lang.specs.declared.syntax.FunctionName.{FunctionName}
use Rattle.edb_scan.specs.declared.lexeme.Mark.TheVariants as mark
use Rattle.edb_scan.specs.declared.lexeme.Token.TheVariants as token
use Rattle.edb_small.specs.Grammar.{Written, sign, word, written, rest_written, written_pattern, written_parameters, written_exports, written_function, written_functions}

-- each of the list has it
abbrev pub Each : (A : Type 0) → (A → Type 0) → List A → Type 0
Each A P [] = Unit {0}
Each A P (x ∷ xs) = P x × Each A P xs

-- things, each behind this
abbrev pub run : (A : Type 0) → List Written → (A → List Written) → List A → List Written
run A before w [] = []
run A before w (x ∷ xs) = before ++ (w x ++ run A before w xs)

abbrev pub comma : List Written
comma = sign mark.Comma ∷ []

pub rest_run : (es : List Exp) → rest_written (exps_of es) ≡ run Exp comma written es
rest_run [] = refl
rest_run (e ∷ es) = ap (λ ws. sign mark.Comma ∷ (written e ++ ws)) (rest_run es)

pub parameters_run : (p : Pat) (ps : List Pat) → written_parameters (p ∷ ps) ≡ written_pattern p ++ run Pat comma written_pattern ps
parameters_run p [] = sym (append-nil (written_pattern p))
parameters_run p (q ∷ ps) = ap (λ ws. written_pattern p ++ (sign mark.Comma ∷ ws)) (parameters_run q ps)

abbrev pub written_export : FunctionName → List Written
written_export e = word e.name ∷ (sign mark.Slash ∷ ((None, token.Int e.arity) ∷ []))

pub exports_run : (e : FunctionName) (es : List FunctionName) → written_exports (e ∷ es) ≡ written_export e ++ run FunctionName comma written_export es
exports_run e [] = refl
exports_run e (d ∷ es) = ap (λ ws. written_export e ++ (sign mark.Comma ∷ ws)) (exports_run d es)

pub functions_run : (fs : List FunctionTree) → written_functions fs ≡ run FunctionTree [] written_function fs
functions_run [] = refl
functions_run (f ∷ fs) = ap (λ ws. written_function f ++ ws) (functions_run fs)

-- Tests, and steps that may fail.

pub both : (a b : Bool) → (a && b) ≡ true → (a ≡ true) × (b ≡ true)
both true b e = (refl, e)
both false b e = absurd (cc)

pub then_some : {A B : Type 0} (f : A → Option B) (o : Option A) (y : B) → option_and_then f o ≡ Some y → (x : A) × (o ≡ Some x) × (f x ≡ Some y)
then_some f None y e = absurd (cc)
then_some f (Some x) y e = (x, refl, e)
