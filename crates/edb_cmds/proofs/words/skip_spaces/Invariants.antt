use Rattle.std.proofs.Common.{◌≡◌, take}
use Rattle.edb_cmds.specs.Script.{spaces}
use Rattle.edb_cmds.proofs.words.skip_spaces.Given as goal

abbrev pub invariant-loop-count : goal.invariant-loop-count
invariant-loop-count l = take l.count l.text ≡ spaces l.count
