use Rattle.std.proofs.Common.{◌≡◌, drop}
use Rattle.edb_model.specs.Lookup.{version_beside}
use Rattle.edb_eval.specs.Bodies.{outer_bodies}
use Rattle.edb_eval.proofs.frames.Frames.version_of.Given as goal

abbrev pub invariant-loop-depth : goal.invariant-loop-depth
invariant-loop-depth l = version_beside l.«module» (outer_bodies (drop l.depth l.self)) ≡ version_beside l.«module» (outer_bodies l.self)
