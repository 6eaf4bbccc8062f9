-- Modules, versions and functions: which function a call names.

use Rattle.std.specs.Prelude.{ℕ, ◌-◌, Bool, true, false, if◌then◌else◌, ◌&&◌, ◌||◌, ◌==◌, List, [], ◌∷◌, ◌++◌, length, map, count_by, Option, None, Some}
use Rattle.std.specs.Option.{option_and_then}
use Rattle.std.specs.List.{list_any}
use Rattle.edb_lang.specs.TermText.{same_name}
use Rattle.edb_lang.specs.Syntax.{ModuleTree, FunctionTree}

-- the number that stands beside a module's name, where one does
abbrev pub version_beside : List ℕ → List (List ℕ × ℕ) → Option ℕ
version_beside m [] = None
version_beside m (p ∷ ps) = if same_name p.0 m then Some p.1 else version_beside m ps

-- at first version 1 of each module is current
abbrev pub first_versions : List ModuleTree → List (List ℕ × ℕ)
first_versions code = map (λ x. (x.name, 1)) code

-- the k-th of the files that hold module m is its version k
abbrev pub version_in : List ModuleTree → List ℕ → ℕ → Option ModuleTree
version_in [] m k = None
version_in (x ∷ xs) m k =
    if same_name x.name m then (if k == 1 then Some x else version_in xs m (k - 1)) else version_in xs m k

-- the function of that name and arity
abbrev pub function_in : List FunctionTree → List ℕ → ℕ → Option FunctionTree
function_in [] f n = None
function_in (g ∷ gs) f n = if same_name g.name f && length g.parameters == n then Some g else function_in gs f n

-- whether a module exports a function of that name and arity
abbrev pub exports : ModuleTree → List ℕ → ℕ → Bool
exports x f n = list_any (λ e. same_name e.name f && e.arity == n) x.exports

-- A call into m takes the version of the innermost Body of m that runs, and else the current one.
-- `running` has the module and version of each Body, innermost first.
abbrev pub version_for : List ℕ → List (List ℕ × ℕ) → List (List ℕ × ℕ) → Option ℕ
version_for m running current = version_beside m (running ++ current)

-- the function of m that a call names; one from outside the module has to be exported
abbrev pub function_for : List ModuleTree → List ℕ → ℕ → Bool → List ℕ → ℕ → Option FunctionTree
function_for code m k inside f n =
    option_and_then (λ (x : ModuleTree). if inside || exports x f n then function_in x.functions f n else None) (version_in code m k)

-- how many versions of m there are
abbrev pub versions_in : List ModuleTree → List ℕ → ℕ
versions_in code m = count_by (λ x. same_name x.name m) code
