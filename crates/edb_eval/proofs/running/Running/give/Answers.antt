use Rattle.std.proofs.Common.{◌∙◌}
use Rattle.edb_eval.specs.Tree.{info_of}
use Rattle.edb_eval.proofs.Moves.{comes_into, ends_with}
use Rattle.edb_eval.proofs.running.Running.give.Goals as goal

pub returns-in-Holder : goal.returns-in-Holder
returns-in-Holder c = rw c.focus_on.ensures
    (comes_into c.in-Holder.holder (info_of c.loop-frame.self.here) c.args.value c.arrived.result c.in-Some.ensures c.in-Holder.is c.arrived.ensures.tree
    ∙ c.loop-frame.invariant)

pub loop-frame-preserved : goal.loop-frame-preserved
loop-frame-preserved c =
    rw c.come_to.ensures
    (ends_with c.in-Body.outer (info_of c.loop-frame.self.here) c.args.value c.in-Some.ensures c.in-Body.is ∙ c.loop-frame.invariant)
