-- All faults of a module: of its name, of its exports, and of its functions. A function sees no variables but its own.

use Rattle.std.specs.Prelude.{ℕ, Bool, ◌||◌, not, List, [], ◌∷◌, ◌++◌, codes}
use Rattle.edb_lang.specs.TermText.{same_name}
use Rattle.edb_syntax.specs.declared.modules.Export.{Export}
use Rattle.edb_syntax.specs.Syntax.{FunctionTree, ModuleTree}
use Rattle.edb_table.specs.Keys.{Key}
use Rattle.edb_check.specs.declared.fault.CheckFault.{CheckFault}
use Rattle.edb_check.specs.declared.fault.CheckKind.TheVariants.{Duplicate, NotExported}
use Rattle.edb_check.specs.Faults.{fault_if}
use Rattle.edb_check.specs.Functions.{key_of, keys_of, is_defined}
use Rattle.edb_check.specs.Rules.{heads_faults}

-- the modules that have built-ins
abbrev pub is_taken : List ℕ → Bool
is_taken name =
    same_name name (codes "erlang") || (same_name name (codes "lists") || (same_name name (codes "io") || same_name name (codes "int")))

-- what is exported has to be a function of the module
abbrev pub exports_faults : List Key → List Export → List CheckFault
exports_faults keys [] = []
exports_faults keys (e ∷ es) = fault_if (not (is_defined keys (e.name, e.arity))) e.line NotExported ++ exports_faults keys es

-- a function that is defined twice is a fault where it is defined again; these are the functions before
abbrev pub duplicates : List Key → List FunctionTree → List CheckFault
duplicates before [] = []
duplicates before (f ∷ fs) = fault_if (is_defined before (key_of f)) f.line Duplicate ++ duplicates (before ++ key_of f ∷ []) fs

abbrev pub functions_faults : List Key → List FunctionTree → List CheckFault
functions_faults keys [] = []
functions_faults keys (f ∷ fs) = heads_faults keys [] f.clauses ++ functions_faults keys fs

abbrev pub module_faults : ModuleTree → List CheckFault
module_faults m =
    fault_if (is_taken m.name) m.line Duplicate
    ++ (duplicates [] m.functions
    ++ (exports_faults (keys_of m.functions) m.exports
    ++ functions_faults (keys_of m.functions) m.functions))
