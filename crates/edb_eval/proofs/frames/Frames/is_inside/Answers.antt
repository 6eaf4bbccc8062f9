use Rattle.std.proofs.Common.{◌∙◌, sym, ap}
use Rattle.std.specs.List.{slice_get}
use Rattle.edb_eval.proofs.InnermostLaws.{passes_frame}
use Rattle.edb_eval.proofs.frames.Frames.is_inside.Goals as goal

pub loop-depth-preserved : goal.loop-depth-preserved
loop-depth-preserved c =
    passes_frame c.args.modules.now c.args.self.now c.loop-depth.depth c.in-Some.frame.now (sym (c.in-Some.ensures ∙ ap (λ fs. slice_get fs c.loop-depth.depth) c.self.view_is)) (sym c.is_body_of.ensures ∙ c.if-is_body_of.false)
    ∙ c.loop-depth.invariant
