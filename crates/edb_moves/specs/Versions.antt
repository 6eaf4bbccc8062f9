-- The version rule: which version of a module a call into it takes.

use Rattle.std.specs.Prelude.{ℕ, if◌then◌else◌, List, [], ◌∷◌, ◌++◌, map, Option, None, Some}
use Rattle.edb_lang.specs.TermText.{same_name}
use Rattle.edb_syntax.specs.Syntax.{ModuleTree}

-- the number that stands beside a module's name, where one does
abbrev pub version_beside : List ℕ → List (List ℕ × ℕ) → Option ℕ
version_beside m [] = None
version_beside m (p ∷ ps) = if same_name p.0 m then Some p.1 else version_beside m ps

-- A call into m takes the version of the innermost Body of m that runs, and else the current one.
-- `running` has the name and version of each Body's module, innermost first.
abbrev pub version_for : List (List ℕ × ℕ) → List (List ℕ × ℕ) → List ℕ → Option ℕ
version_for current running m = version_beside m (running ++ current)

-- Bodies by their modules' names
abbrev pub by_name : List (ModuleTree × ℕ) → List (List ℕ × ℕ)
by_name bodies = map (λ b. (b.0.name, b.1)) bodies
