use Rattle.edb_eval.specs.Tree.{info_of, focus_tree}
use Rattle.edb_eval.proofs.Stays.{exit_reason-plug}
use Rattle.edb_eval.proofs.machine.Machine.reason.Goals as goal

pub returns-in-Running : goal.returns-in-Running
returns-in-Running c =
    let r = c.in-Running.field-0 in
    rw (c.in-Running.is, exit_reason-plug r.frames (info_of r.here) (focus_tree r.focus)) c.failure-in-Running.ensures
