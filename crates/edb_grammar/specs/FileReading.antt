-- Reading a file form by form.

use Rattle.std.specs.Prelude.{ℕ, suc, ◌+◌, if◌then◌else◌, List, [], ◌∷◌, ◌++◌, Option, Some, None}
use Rattle.edb_scan.specs.declared.lexeme.Placed.{Placed}
use Rattle.edb_syntax.specs.declared.modules.Export.{Export}
use Rattle.edb_syntax.specs.Syntax.{FunctionTree, ModuleTree}
use Rattle.edb_grammar.specs.Toks.{places, funs_behind, line_at}
use Rattle.edb_grammar.specs.Forms.{FormTree, names, exports, skipped, defines}
use Rattle.edb_grammar.specs.Files.{is_dot, forms_of}
use Rattle.edb_grammar.specs.FormReading.{read_form}

-- what a file is: a module, or one that has its fault at this form, on this line
pub data Verdict : Type 0 where
  accepted : ModuleTree → Verdict
  refused : ℕ → ℕ → Verdict

-- a module that exports these too, or has one more function
abbrev pub with_exports : ModuleTree → List Export → ModuleTree
with_exports m xs = record m { exports = m.exports ++ xs }

abbrev pub with_function : ModuleTree → FunctionTree → ModuleTree
with_function m f = record m { functions = m.functions ++ f ∷ [] }

-- the fault is at this form, the n-th
abbrev pub refused_at : ℕ → ℕ → List Placed → Verdict
refused_at n funs form = refused n (line_at (places funs form))

-- What the n-th form's tree makes of the module m so far, where so many `fun`s stand before the form; `further` goes on
-- behind it. The module form may not come again.
abbrev pub behind_form : ℕ → ℕ → ModuleTree → List Placed → (ℕ → ModuleTree → Verdict) → Option FormTree → Verdict
behind_form n funs m form further (Some (exports xs)) = further funs (with_exports m xs)
behind_form n funs m form further (Some skipped) = further funs m
behind_form n funs m form further (Some (defines f)) = further (funs_behind funs form) (with_function m f)
behind_form n funs m form further (Some (names l a)) = refused_at n funs form
behind_form n funs m form further None = refused_at n funs form

-- the forms behind the module form, of which the first is the n-th of the file
abbrev pub read_forms : ℕ → ℕ → ModuleTree → List (List Placed) → Verdict
read_forms n funs m [] = accepted m
read_forms n funs m (form ∷ forms) = behind_form n funs m form (λ k v. read_forms (n + 1) k v forms) (read_form (places funs form))

-- the first form has to be the module form
abbrev pub behind_first : List Placed → List (List Placed) → Option FormTree → Verdict
behind_first form forms (Some (names l a)) = read_forms 2 0 (record { name = a; line = l; exports = []; functions = [] }) forms
behind_first form forms _ = refused_at 1 0 form

-- a file without forms has its fault at form 1, line 1
abbrev pub read_all_forms : List (List Placed) → Verdict
read_all_forms [] = refused 1 1
read_all_forms (form ∷ forms) = behind_first form forms (read_form (places 0 form))

abbrev pub read_file : List Placed → Verdict
read_file tokens = read_all_forms (forms_of tokens)

-- how many tokens the first form has: those up to its dot, or all
abbrev pub form_length : List Placed → ℕ
form_length [] = 0
form_length (t ∷ ts) = if is_dot t.token then 1 else suc (form_length ts)
