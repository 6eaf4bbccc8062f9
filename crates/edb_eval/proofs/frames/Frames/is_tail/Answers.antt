use Rattle.std.proofs.Common.{◌∙◌, sym, ap}
use Rattle.std.specs.List.{slice_get}
use Rattle.edb_eval.proofs.Depths.{tail_next}
use Rattle.edb_eval.proofs.frames.Frames.is_tail.Goals as goal

pub loop-depth-preserved : goal.loop-depth-preserved
loop-depth-preserved c =
    let s = c.in-Some-Holder-Sequence in
    tail_next c.args.self.now c.loop-depth.depth s.field-0.now s.field-0-0 s.field-0-0-0 s.rest (sym (s.ensures ∙ ap (λ fs. slice_get fs c.loop-depth.depth) c.self.view_is)) s.field-0-is s.field-0-0-is (sym c.is_empty.ensures ∙ c.if-not-is_empty.false)
    ∙ c.loop-depth.invariant
