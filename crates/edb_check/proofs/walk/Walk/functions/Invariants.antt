use Rattle.std.proofs.Common.{◌≡◌, drop}
use Rattle.edb_check.specs.Modules.{functions_faults}
use Rattle.edb_check.specs.Walking.{least}
use Rattle.edb_check.proofs.walk.Walk.functions.Given as goal

abbrev pub invariant-loop-function : goal.invariant-loop-function
invariant-loop-function l = least l.self.first (functions_faults l.known (drop l.function-index l.functions)) ≡ least l.initial.self.first (functions_faults l.known l.functions)
