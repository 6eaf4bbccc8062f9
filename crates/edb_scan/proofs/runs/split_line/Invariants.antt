use Rattle.std.proofs.Common.{◌≡◌, true, take}
use Rattle.std.specs.List.{list_all}
use Rattle.edb_scan.specs.Lexis.{stays_in_line}
use Rattle.edb_scan.proofs.runs.split_line.Given as goal

abbrev pub invariant-loop-len : goal.invariant-loop-len
invariant-loop-len l = list_all stays_in_line (take l.len l.bytes) ≡ true
