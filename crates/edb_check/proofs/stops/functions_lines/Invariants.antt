use Rattle.std.proofs.Common.{◌≡◌, ◌++◌, drop}
use Rattle.edb_check.specs.Stops.{functions_stops}
use Rattle.edb_check.proofs.stops.functions_lines.Given as goal

abbrev pub invariant-loop-function : goal.invariant-loop-function
invariant-loop-function l = l.lines.items ++ functions_stops (drop l.function-index l.functions) ≡ l.initial.lines.items ++ functions_stops l.functions
