-- A call with a module: what it names, and the call of a function that the module exports.

use Rattle.std.specs.Prelude.{ℕ, if◌then◌else◌, List, ◌∷◌, length, codes, Option, None, Some}
use Rattle.edb_lang.specs.Terms.{Datum, atom}
use Rattle.edb_syntax.specs.Syntax.{ModuleTree}
use Rattle.edb_syntax.specs.Lookup.{exports}
use Rattle.edb_moves.specs.Running.{Run}
use Rattle.edb_moves.specs.Going.{Place, Effect, if_some}
use Rattle.edb_moves.specs.Calls.{entered_in}
use Rattle.edb_moves.specs.Raises.{fails}

-- the call, once the module is known, where there is one
abbrev pub exported_call : Place → Option (ModuleTree × ℕ) → List ℕ → List Datum → Effect Run
exported_call p found f vs =
    if_some found
    (λ x. if exports x.0 f (length vs) then entered_in p x.0 x.1 f vs (fails (codes "undef")) else fails (codes "undef"))
    (fails (codes "undef"))

-- the module, the name and the arguments, where the first two operands are atoms
abbrev pub target_of : List Datum → Option (List ℕ × (List ℕ × List Datum))
target_of (atom m ∷ atom f ∷ vs) = Some (m, (f, vs))
target_of _ = None
