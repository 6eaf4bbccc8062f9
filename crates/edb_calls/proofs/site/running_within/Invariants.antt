use Rattle.std.proofs.Common.{◌≡◌, drop}
use Rattle.edb_moves.specs.Versions.{version_beside, by_name}
use Rattle.edb_stack.specs.Views.{layers_of}
use Rattle.edb_calls.specs.Layered.{bodies_in}
use Rattle.edb_calls.proofs.site.running_within.Given as goal

abbrev pub invariant-loop-depth : goal.invariant-loop-depth
invariant-loop-depth l = version_beside l.«module» (by_name (bodies_in (layers_of (drop l.depth l.layers.0)))) ≡ version_beside l.«module» (by_name (bodies_in (layers_of l.layers.0)))
