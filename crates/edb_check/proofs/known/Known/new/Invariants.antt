use Rattle.std.proofs.Common.{[], take, drop}
use Rattle.edb_check.specs.Functions.{keys_of}
use Rattle.edb_check.specs.Modules.{duplicates}
use Rattle.edb_check.specs.Kept.{Kept}
use Rattle.edb_check.specs.Walking.{Goes, only}
use Rattle.edb_check.proofs.known.Known.new.Given as goal

abbrev pub invariant-loop-function : goal.invariant-loop-function
invariant-loop-function l = record {
  kept : Kept l.keys (keys_of (take l.function-index l.functions));
  goes : Goes l.initial.walk l.walk (only (duplicates [] l.functions))
      (only (duplicates (keys_of (take l.function-index l.functions)) (drop l.function-index l.functions)));
}
