use Rattle.std.proofs.Common.{◌≡◌, length}
use Rattle.edb_model.specs.Running.{value}
use Rattle.edb_model.specs.Move.{turns}
use Rattle.edb_eval.specs.Places.{out_of}
use Rattle.edb_eval.proofs.running.Running.give.Given as goal

abbrev pub invariant-loop-frame : goal.invariant-loop-frame
invariant-loop-frame l =
    out_of l.self (turns l.self.here.bindings (value l.value)) ≡ out_of l.initial.self (turns l.initial.self.here.bindings (value l.value))

abbrev pub decreases-loop-frame : goal.decreases-loop-frame
decreases-loop-frame l = length l.self.frames
