-- What contracts see of scopes and of lists of names.

use Rattle.std.specs.Prelude.{ℕ, List, map, refl}
use denote.Bor.{Bor}
use Rattle.std.specs.Coded.{Coded, code_by, coded_ℕ, coded×, coded_list}
use Rattle.edb_check.specs.contracts.status.Status as status
use Rattle.edb_check.specs.declared.scope.Bound.{Bound}
use Rattle.edb_check.specs.declared.status.Status.{Status}
use Rattle.edb_check.specs.Scopes.{Binding, Scope}

abbrev pub binding_of : Bound → Binding
binding_of b = record { name = b.name.now; status = b.status }

abbrev pub scope_of : List Bound → Scope
scope_of bs = map binding_of bs

abbrev pub names_of : List (Bor (List ℕ)) → List (List ℕ)
names_of ns = map (λ n. n.now) ns

abbrev pub coded_binding : Coded Binding
coded_binding =
    code_by (List ℕ × Status) (coded× (coded_list coded_ℕ) status.the_row.coded)
    (λ b. (b.name, b.status))
    (λ p. record { name = p.0; status = p.1 })
    (λ _. refl)
