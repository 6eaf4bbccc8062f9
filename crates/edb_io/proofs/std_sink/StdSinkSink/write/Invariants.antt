use Rattle.std.proofs.Common.{◌≡◌, length}
use Rattle.edb_io.proofs.std_sink.StdSinkSink.write.Given as goal

-- nothing is counted and the flag stays while the writes go well
abbrev pub invariant-loop-rest : goal.invariant-loop-rest
invariant-loop-rest g l = (l.self.faults ≡ l.fn.self.faults) × (l.self.flagged ≡ l.fn.self.flagged)

-- each turn writes some of what is left
abbrev pub decreases-loop-rest : goal.decreases-loop-rest
decreases-loop-rest g l = length l.rest
