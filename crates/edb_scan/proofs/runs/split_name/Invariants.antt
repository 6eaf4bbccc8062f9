use Rattle.std.proofs.Common.{◌≡◌, true, take}
use Rattle.std.specs.List.{list_all}
use Rattle.edb_scan.specs.Letters.{is_name_char}
use Rattle.edb_scan.proofs.runs.split_name.Given as goal

abbrev pub invariant-loop-len : goal.invariant-loop-len
invariant-loop-len l = list_all is_name_char (take l.len l.bytes) ≡ true
