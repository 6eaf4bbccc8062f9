-- Single cases on a code that has two versions of a module, each by computation.

use Rattle.std.proofs.Common.{◌≡◌, ℕ, List, [], ◌∷◌, Some, None, refl}
use Rattle.std.specs.Prelude.{codes}
use Rattle.edb_syntax.specs.Lookup.{first_versions}
use Rattle.edb_syntax.specs.Syntax.{ModuleTree}
use Rattle.edb_moves.specs.Versions.{version_beside, version_for}

abbrev m : List ℕ
m = codes "m"

abbrev n : List ℕ
n = codes "n"

abbrev empty : List ℕ → ModuleTree
empty name = record { name = name; line = 1; exports = []; functions = [] }

-- files with m, n and m again
abbrev code : List ModuleTree
code = empty m ∷ empty n ∷ empty m ∷ []

-- the current versions once version 2 of m was loaded
abbrev loaded : List (List ℕ × ℕ)
loaded = (m, 2) ∷ (n, 1) ∷ (m, 2) ∷ []

at_first : version_beside m (first_versions code) ≡ Some 1
at_first = refl

after_a_load : version_beside m loaded ≡ Some 2
after_a_load = refl

no_such_module : version_beside (codes "x") loaded ≡ None
no_such_module = refl

nothing_runs : version_for loaded [] m ≡ Some 2
nothing_runs = refl

-- an old Body of m still runs
own_version_is_kept : version_for loaded ((m, 1) ∷ []) m ≡ Some 1
own_version_is_kept = refl

-- the innermost Body is one of n, and the next one of m
body_further_out : version_for loaded ((n, 1) ∷ (m, 1) ∷ (m, 2) ∷ []) m ≡ Some 1
body_further_out = refl

-- the innermost of two Bodies of m
innermost_body : version_for (first_versions code) ((m, 2) ∷ (m, 1) ∷ []) m ≡ Some 2
innermost_body = refl

body_of_another_module : version_for loaded ((n, 1) ∷ []) m ≡ Some 2
body_of_another_module = refl
