use Rattle.std.proofs.Common.{take}
use Rattle.edb_tools.specs.Verdicts.{AreAccepted}
use Rattle.edb_tools.proofs.sources.check_all.Given as goal

-- the texts so far are accepted
abbrev pub invariant-loop-file : goal.invariant-loop-file
invariant-loop-file l = AreAccepted (take l.file l.texts)
