use Rattle.edb_model.specs.Running.{running}
use Rattle.edb_eval.proofs.Nexts.{leftmost-held}
use Rattle.edb_eval.proofs.running.Running.glance.Goals as goal

pub returns-in-Some : goal.returns-in-Some
returns-in-Some c =
    rw (c.in-Code.is, leftmost-held c.in-Code.around (running c.in-Code.code.now) c.in-Some.ensures.0) c.in-Some.ensures.1
