use Rattle.std.proofs.Common.{◌≡◌, drop}
use Rattle.edb_eval.specs.Places.{is_tail}
use Rattle.edb_eval.proofs.frames.Frames.is_tail.Given as goal

abbrev pub invariant-loop-depth : goal.invariant-loop-depth
invariant-loop-depth l = is_tail (drop l.depth l.self) ≡ is_tail l.self
