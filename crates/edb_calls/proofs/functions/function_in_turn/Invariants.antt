use Rattle.std.proofs.Common.{◌≡◌, drop}
use Rattle.edb_syntax.specs.Lookup.{function_in}
use Rattle.edb_calls.proofs.functions.function_in_turn.Given as goal

abbrev pub invariant-loop-function : goal.invariant-loop-function
invariant-loop-function l = function_in (drop l.function-index l.functions) l.name l.arity ≡ function_in l.functions l.name l.arity
