use Rattle.std.proofs.Common.{◌≡◌, drop}
use Rattle.edb_small.specs.Conditions.{has_function}
use Rattle.edb_small.proofs.walks.has_function.Given as goal

-- the functions that are left have it where all have it
abbrev pub invariant-loop-function : goal.invariant-loop-function
invariant-loop-function l = has_function (drop l.function-index l.functions) l.name l.arity ≡ has_function l.functions l.name l.arity
