use Rattle.std.proofs.Common.{◌≡◌, drop}
use Rattle.edb_notyet.specs.Beyond as beyond
use Rattle.edb_notyet.proofs.walk.some_function_is_beyond.Given as goal

-- the functions that are left decide
abbrev pub invariant-loop-function : goal.invariant-loop-function
invariant-loop-function l = beyond.some_function_is_beyond l.fn.unit (drop l.function-index l.functions) ≡ beyond.some_function_is_beyond l.fn.unit l.functions
