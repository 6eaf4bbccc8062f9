use Rattle.std.proofs.Common.{◌≡◌, drop}
use Rattle.edb_model.specs.Lookup.{function_in}
use Rattle.edb_model.proofs.code.find_function.Given as goal

-- what is left holds the function that the whole does
abbrev pub invariant-loop-function : goal.invariant-loop-function
invariant-loop-function l = function_in (drop l.function-index l.functions) l.name l.arity ≡ function_in l.functions l.name l.arity
