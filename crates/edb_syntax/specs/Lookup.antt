-- Modules, versions and functions: what a name means in the code of a run.

use Rattle.std.specs.Prelude.{ℕ, ◌-◌, Bool, if◌then◌else◌, ◌&&◌, ◌==◌, List, [], ◌∷◌, map, count_by, Option, None, Some}
use Rattle.std.specs.List.{list_any}
use Rattle.edb_lang.specs.TermText.{same_name}
use Rattle.edb_syntax.specs.Syntax.{ModuleTree, FunctionTree}

-- at first version 1 of each module is current
abbrev pub first_versions : List ModuleTree → List (List ℕ × ℕ)
first_versions code = map (λ x. (x.name, 1)) code

-- the k-th of the files that hold module m is its version k
abbrev pub version_in : List ModuleTree → List ℕ → ℕ → Option ModuleTree
version_in [] m k = None
version_in (x ∷ xs) m k =
    if same_name x.name m then (if k == 1 then Some x else version_in xs m (k - 1)) else version_in xs m k

-- how many versions of m there are
abbrev pub versions_in : List ModuleTree → List ℕ → ℕ
versions_in code m = count_by (λ x. same_name x.name m) code

-- the function of that name and arity
abbrev pub function_in : List FunctionTree → List ℕ → ℕ → Option FunctionTree
function_in [] f n = None
function_in (g ∷ gs) f n = if same_name g.name f && g.arity == n then Some g else function_in gs f n

-- whether a module exports a function of that name and arity
abbrev pub exports : ModuleTree → List ℕ → ℕ → Bool
exports x f n = list_any (λ e. same_name e.name f && e.arity == n) x.exports
