use Rattle.std.proofs.Common.{◌≡◌, ◌++◌, drop, map}
use Rattle.edb_syntax.specs.FunForms.{functions_forms}
use Rattle.edb_units.specs.Forms.{form_of}
use Rattle.edb_units.proofs.collect.forms_of.Given as goal

-- those found and those of the functions that are left are all
abbrev pub invariant-loop-function : goal.invariant-loop-function
invariant-loop-function l = map form_of l.found.items ++ functions_forms (drop l.function-index l.functions) ≡ functions_forms l.functions
