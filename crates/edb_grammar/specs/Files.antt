-- Files: which tokens are which module.

use Rattle.std.specs.Prelude.{◌≡◌, ℕ, Bool, true, false, if◌then◌else◌, List, [], ◌∷◌, ◌++◌}
use Rattle.edb_scan.specs.declared.lexeme.Token.{Token}
use Rattle.edb_scan.specs.declared.lexeme.Token.TheVariants.{Dot}
use Rattle.edb_scan.specs.declared.lexeme.Placed.{Placed}
use Rattle.edb_syntax.specs.declared.modules.Export.{Export}
use Rattle.edb_syntax.specs.Syntax.{FunctionTree, ModuleTree}
use Rattle.edb_grammar.specs.Toks.{places, funs_behind}
use Rattle.edb_grammar.specs.Forms.{ReadsForm, names, exports, skipped, defines}

abbrev pub is_dot : Token → Bool
is_dot Dot = true
is_dot _ = false

-- forms with a token before the first of them
abbrev pub with_first : Placed → List (List Placed) → List (List Placed)
with_first t [] = (t ∷ []) ∷ []
with_first t (form ∷ forms) = (t ∷ form) ∷ forms

-- the forms of a file: each ends with its dot, but the last may have none
abbrev pub forms_of : List Placed → List (List Placed)
forms_of [] = []
forms_of (t ∷ ts) = if is_dot t.token then (t ∷ []) ∷ forms_of ts else with_first t (forms_of ts)

-- `ReadsForms n forms xs fs`: forms behind the module form, before which so many `fun`s stand, export xs in all and
-- define fs, in this order
pub data ReadsForms : ℕ → List (List Placed) → List Export → List FunctionTree → Type 0 where
  no_forms : {n : ℕ} → ReadsForms n [] [] []
  export_form : {n : ℕ} {form : List Placed} {forms : List (List Placed)} {xs ys : List Export} {fs : List FunctionTree}
      → ReadsForm (places n form) (exports xs) → ReadsForms n forms ys fs → ReadsForms n (form ∷ forms) (xs ++ ys) fs
  skipped_form : {n : ℕ} {form : List Placed} {forms : List (List Placed)} {xs : List Export} {fs : List FunctionTree}
      → ReadsForm (places n form) skipped → ReadsForms n forms xs fs → ReadsForms n (form ∷ forms) xs fs
  function_form : {n : ℕ} {form : List Placed} {forms : List (List Placed)} {xs : List Export} {f : FunctionTree} {fs : List FunctionTree}
      → ReadsForm (places n form) (defines f) → ReadsForms (funs_behind n form) forms xs fs → ReadsForms n (form ∷ forms) xs (f ∷ fs)

-- a file is its module form, and forms behind it
pub data ReadsFile : List Placed → ModuleTree → Type 0 where
  a_file : {tokens form : List Placed} {forms : List (List Placed)} {l : ℕ} {m : List ℕ} {xs : List Export} {fs : List FunctionTree}
      → forms_of tokens ≡ form ∷ forms → ReadsForm (places 0 form) (names l m) → ReadsForms 0 forms xs fs
      → ReadsFile tokens (record { name = m; line = l; exports = xs; functions = fs })
