use Rattle.std.proofs.Common.{◌∙◌, sym}
use Rattle.edb_eval.specs.Tree.{info_of}
use Rattle.edb_eval.proofs.Moves.{body_replaced}
use Rattle.edb_eval.proofs.running.Running.replace.Goals as goal

pub returns : goal.returns
returns c =
    rw (c.focus_on.ensures, c.come_to.ensures)
    (body_replaced c.args.entry c.loop-self.self.frames (info_of c.loop-self.self.here) (sym c.is_at_body.ensures ∙ c.loop-self-test.false) ∙ c.loop-self.invariant)
