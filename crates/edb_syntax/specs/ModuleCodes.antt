-- How functions and modules are stored.

use Rattle.std.specs.Prelude.{ℕ, List, refl}
use Rattle.std.specs.Coded.{Coded, code_by, coded_ℕ, coded×, coded_list}
use Rattle.edb_syntax.specs.contracts.modules.Export as export
use Rattle.edb_syntax.specs.declared.modules.Export.{Export}
use Rattle.edb_syntax.specs.Codes.{coded_clauses}
use Rattle.edb_syntax.specs.Syntax.{Clauses, FunctionTree, ModuleTree}

abbrev pub coded_function : Coded FunctionTree
coded_function =
    code_by (List ℕ × (ℕ × (ℕ × Clauses))) (coded× (coded_list coded_ℕ) (coded× coded_ℕ (coded× coded_ℕ coded_clauses)))
    (λ f. (f.name, (f.arity, (f.line, f.clauses))))
    (λ p. record { name = p.0; arity = p.1.0; line = p.1.1.0; clauses = p.1.1.1 })
    (λ _. refl)

abbrev pub coded_module : Coded ModuleTree
coded_module =
    code_by (List ℕ × (ℕ × (List Export × List FunctionTree))) (coded× (coded_list coded_ℕ) (coded× coded_ℕ (coded× (coded_list export.the_row.coded) (coded_list coded_function))))
    (λ m. (m.name, (m.line, (m.exports, m.functions))))
    (λ p. record { name = p.0; line = p.1.0; exports = p.1.1.0; functions = p.1.1.1 })
    (λ _. refl)
