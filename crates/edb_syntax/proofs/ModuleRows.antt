-- Single cases of what a module's names and fun forms mean, each by computation.

use Rattle.std.proofs.Common.{◌≡◌, ℕ, true, false, List, [], ◌∷◌, Some, None, refl}
use Rattle.std.specs.Prelude.{codes}
use Rattle.edb_syntax.specs.Patterns as pattern
use Rattle.edb_syntax.specs.Syntax.{Exp, Clauses, FunctionTree, ModuleTree, variable, fun_clauses, fun_local, fun_remote, case, none, more, sequence, no_guard, alternative, clause, no_clauses, more_clauses}
use Rattle.edb_syntax.specs.Forms.{tuple}
use Rattle.edb_syntax.specs.Lookup.{first_versions, version_in, versions_in, function_in, exports}
use Rattle.edb_syntax.specs.FunForms.{forms, form_at, with_clauses, local}

abbrev m : List ℕ
m = codes "m"

abbrev n : List ℕ
n = codes "n"

abbrev f : List ℕ
f = codes "f"

-- `() -> E`
abbrev clauses : Exp → Clauses
clauses e = more_clauses (clause pattern.none no_guard (sequence e none)) no_clauses

-- `f() -> E.`
abbrev defined : Exp → FunctionTree
defined e = record { name = f; arity = 0; line = 2; clauses = clauses e }

-- a module of that one function, which it exports, with its line
abbrev holding : List ℕ → ℕ → Exp → ModuleTree
holding name l e =
    record { name = name; line = l; exports = record { name = f; arity = 0; line = 1 } ∷ []; functions = defined e ∷ [] }

abbrev x : Exp
x = variable 3 (codes "X")

-- files with m, n and m again
abbrev code : List ModuleTree
code = holding m 1 x ∷ holding n 2 x ∷ holding m 3 x ∷ []

first_of_each : first_versions code ≡ (m, 1) ∷ (n, 1) ∷ (m, 1) ∷ []
first_of_each = refl

second_of_m : version_in code m 2 ≡ Some (holding m 3 x)
second_of_m = refl

first_of_n : version_in code n 1 ≡ Some (holding n 2 x)
first_of_n = refl

no_third_of_m : version_in code m 3 ≡ None
no_third_of_m = refl

no_version_zero : version_in code m 0 ≡ None
no_version_zero = refl

two_of_m : versions_in code m ≡ 2
two_of_m = refl

none_of_f : versions_in code f ≡ 0
none_of_f = refl

function_of_arity : function_in (defined x ∷ []) f 0 ≡ Some (defined x)
function_of_arity = refl

no_function_of_arity : function_in (defined x ∷ []) f 1 ≡ None
no_function_of_arity = refl

exports_f : exports (holding m 1 x) f 0 ≡ true
exports_f = refl

exports_no_other_arity : exports (holding m 1 x) f 1 ≡ false
exports_no_other_arity = refl

-- `fun () -> fun f/0 end`
abbrev outer : Exp
outer = fun_clauses 3 0 (clauses (fun_local 3 1 f 0))

-- `{fun () -> fun f/0 end, fun n:f/0, fun f/0}`: the third counts, and is no form
abbrev three : Exp
three = tuple 3 (more outer (more (fun_remote 3 n f 0) (more (fun_local 3 3 f 0) none)))

forms_in_order : forms (holding m 1 three) ≡ with_clauses 0 (clauses (fun_local 3 1 f 0)) ∷ local 1 f 0 ∷ local 3 f 0 ∷ []
forms_in_order = refl

form_inside : form_at (holding m 1 three) 1 ≡ Some (local 1 f 0)
form_inside = refl

form_last : form_at (holding m 1 three) 3 ≡ Some (local 3 f 0)
form_last = refl

form_remote : form_at (holding m 1 three) 2 ≡ None
form_remote = refl

-- `case fun f/0 of X when fun f/0 -> fun f/0 end`
abbrev guarded : Exp
guarded =
    case 3 (fun_local 3 0 f 0)
    (more_clauses (clause (pattern.more (pattern.variable 3 (codes "X")) pattern.none) (alternative (more (fun_local 3 1 f 0) none) no_guard) (sequence (fun_local 3 2 f 0) none)) no_clauses)

forms_of_a_case : forms (holding m 1 guarded) ≡ local 0 f 0 ∷ local 1 f 0 ∷ local 2 f 0 ∷ []
forms_of_a_case = refl
