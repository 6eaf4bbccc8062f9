use Rattle.std.proofs.Common.{◌≡◌, length}
use Rattle.edb_small.specs.Conditions.{defined_once}
use Rattle.edb_small.proofs.conditions.defined_once.Given as goal

-- those that are left are defined once where all are
abbrev pub invariant-loop-function : goal.invariant-loop-function
invariant-loop-function l = defined_once l.rest ≡ defined_once l.functions

abbrev pub decreases-loop-function : goal.decreases-loop-function
decreases-loop-function l = length l.rest
