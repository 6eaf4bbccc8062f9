use Rattle.std.proofs.Common.{drop}
use Rattle.edb_check.specs.Modules.{exports_faults}
use Rattle.edb_check.specs.Walking.{Goes, only}
use Rattle.edb_check.proofs.walk.Walk.exports.Given as goal

abbrev pub invariant-loop-export : goal.invariant-loop-export
invariant-loop-export l = Goes l.initial.self l.self (only (exports_faults l.known l.exports)) (only (exports_faults l.known (drop l.export-index l.exports)))
