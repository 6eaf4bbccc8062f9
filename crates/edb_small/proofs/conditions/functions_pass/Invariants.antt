use Rattle.std.proofs.Common.{◌≡◌, drop}
use Rattle.edb_small.specs.Checks.{functions_pass}
use Rattle.edb_small.proofs.conditions.functions_pass.Given as goal

-- the functions that are left pass where all do
abbrev pub invariant-loop-function : goal.invariant-loop-function
invariant-loop-function l = functions_pass l.all (drop l.function-index l.functions) ≡ functions_pass l.all l.functions
