-- By what functions and exports are found: a name and an arity.

use Rattle.std.specs.Prelude.{ℕ, List}
use Rattle.std.specs.declared.cmp.Ordering.{Ordering}
use Rattle.std.specs.Ordering.{nat_cmp, then_cmp, on}
use Rattle.std.specs.Cmp.Lexicographic.{slice_cmp}
use Rattle.edb_syntax.specs.declared.modules.Export.{Export}
use Rattle.edb_syntax.specs.Syntax.{FunctionTree}

-- a name's bytes, and an arity
abbrev pub Signature : Type 0
Signature = List ℕ × ℕ

-- names by their bytes, and what has one name by the arity
abbrev pub signature_cmp : Signature → Signature → Ordering
signature_cmp = then_cmp (on (λ s. s.0) (slice_cmp nat_cmp)) (on (λ s. s.1) nat_cmp)

abbrev pub function_key : FunctionTree → Signature
function_key f = (f.name, f.arity)

abbrev pub export_key : Export → Signature
export_key e = (e.name, e.arity)
