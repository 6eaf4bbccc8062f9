use Rattle.std.proofs.Common.{◌≡◌, true, take}
use Rattle.std.specs.List.{list_all}
use Rattle.edb_cmds.specs.Kinds.{stays_in_word}
use Rattle.edb_cmds.proofs.fields.split_word.Given as goal

abbrev pub invariant-loop-len : goal.invariant-loop-len
invariant-loop-len l = list_all stays_in_word (take l.len l.text) ≡ true
