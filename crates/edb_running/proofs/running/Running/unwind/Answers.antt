use Rattle.std.proofs.Common.{◌≡◌, ◌∷◌, ◌-◌, List, drop, ap, sym, ◌∙◌, arith}
use Rattle.edb_moves.specs.Running.{Info}
use Rattle.edb_stack.specs.Trees.{outward}
use Rattle.edb_stack.specs.Views.{layer_of, layers_of}
use Rattle.edb_running.specs.Landed.{info_at}
use Rattle.edb_running.specs.Standing.{layers_in, info_in}
use Rattle.edb_running.proofs.UnwindLaws.{drop_step, info_step}
use Rattle.edb_running.proofs.running.Running.unwind.Goals as goal

pub loop-left-preserved : goal.loop-left-preserved
loop-left-preserved c =
    let before = c.loop-left.self in
    let e : before.layers.0 ≡ c.in-Some.layer ∷ c.pop.new.self.0 = c.in-Some.ensures.items in
    let now : c.go_outside.new.self.layers.0 ≡ c.pop.new.self.0 = ap (λ s. s.0) c.go_outside.ensures.layers in (
      c.go_outside.ensures.holds,
      ap (drop (c.loop-left.left - 1)) now ∙ drop_step c.loop-left.left c.in-Some.layer c.pop.new.self.0 c.loop-left-test.true ∙ ap (drop c.loop-left.left) (sym e) ∙ c.loop-left.invariant.1,
      ap (λ ls. info_at (c.loop-left.left - 1) (layers_of ls) (info_in c.go_outside.new.self)) now
          ∙ ap (info_at (c.loop-left.left - 1) (layers_of c.pop.new.self.0)) c.go_outside.ensures.info
          ∙ info_step c.loop-left.left (layer_of c.in-Some.layer) (layers_of c.pop.new.self.0) (info_in before) c.loop-left-test.true
          ∙ ap (λ ls. info_at c.loop-left.left (layers_of ls) (info_in before)) (sym e) ∙ c.loop-left.invariant.2,
      omega (arith, c.loop-left.invariant.3, c.in-Some.ensures.room, ap (λ s. s.1) c.go_outside.ensures.layers),
    )
