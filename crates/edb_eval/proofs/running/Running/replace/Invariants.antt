use Rattle.std.proofs.Common.{◌≡◌, length}
use Rattle.edb_model.specs.Move.{leaves}
use Rattle.edb_eval.specs.Places.{out_of}
use Rattle.edb_eval.specs.Calls.{entry_body}
use Rattle.edb_eval.proofs.running.Running.replace.Given as goal

abbrev pub invariant-loop-self : goal.invariant-loop-self
invariant-loop-self l = out_of l.self (leaves (entry_body l.entry)) ≡ out_of l.initial.self (leaves (entry_body l.entry))

abbrev pub decreases-loop-self : goal.decreases-loop-self
decreases-loop-self l = length l.self.frames
