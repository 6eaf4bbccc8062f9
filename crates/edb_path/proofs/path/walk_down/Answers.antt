use Rattle.std.proofs.Common.{rules, ◌≡◌, ◌∷◌, [], ◌++◌, ℕ, List, reverse, ap, sym, subst, ◌∙◌}
use Rattle.edb_moves.specs.Running.{Run, value_of, running}
use Rattle.edb_stack.specs.Parts as parts
use Rattle.edb_stack.specs.Trees.{round}
use Rattle.edb_stack.specs.Paths.{outer, wrapped, Fit}
use Rattle.edb_stack.specs.Views.{layer_of, layers_of}
use Rattle.edb_path.specs.Steps.{step_tree, Plain, StepBelow, StepStands}
use Rattle.edb_path.specs.Waiting.{MayStand}
use Rattle.edb_path.proofs.StepLaws.{one_more, plain_outer, plain_fits}
use Rattle.edb_path.proofs.path.walk_down.Goals as goal

pub returns-in-Ends-clause-tree : goal.returns-in-Ends-clause-tree
returns-in-Ends-clause-tree c = λ bs.
    ap (wrapped (layers_of (reverse c.loop-layers.layers.items)) bs) (ap (step_tree bs) (sym c.in-Ends.is) ∙ c.in_ok-redex.ensures.tree bs)
    ∙ c.loop-layers.invariant.1 bs

pub returns-in-Ends-clause-leads : goal.returns-in-Ends-clause-leads
returns-in-Ends-clause-leads c = λ k n f.
    let ls : List parts.Layer = layers_of (reverse c.loop-layers.layers.items) in
    record {
      fit = c.loop-layers.invariant.2 k n f;
      below = subst (StepBelow n) c.in-Ends.is (c.in_ok-redex.ensures.below n);
      filled = subst (StepStands ls) c.in-Ends.is (c.in_ok-redex.ensures.stands ls c.loop-layers.invariant.0);
    }

pub loop-layers-preserved : goal.loop-layers-preserved
loop-layers-preserved c =
    let ls : List parts.Layer = layers_of (reverse c.loop-layers.layers.items) in
    let l : parts.Layer = layer_of c.in-Goes.layer in
    let t : Run = running c.in-Goes.inner.now in
    let items : c.push.new.self.items ≡ c.loop-layers.layers.items ++ c.in-Goes.layer ∷ [] = search rules in
    let more : layers_of (reverse c.push.new.self.items) ≡ l ∷ ls = ap (λ xs. layers_of (reverse xs)) items ∙ one_more c.loop-layers.layers.items c.in-Goes.layer in
    let plain : (n : ℕ) → Plain n l = λ n. subst (StepBelow n) c.in-Goes.is (c.in_ok-redex.ensures.below n) in (
      subst (λ xs. MayStand xs (value_of t)) (sym more) (subst (StepStands ls) c.in-Goes.is (c.in_ok-redex.ensures.stands ls c.loop-layers.invariant.0)),
      λ bs.
          ap (λ xs. wrapped xs bs t) more
          ∙ ap (λ cs. wrapped ls cs (round bs l t)) (plain_outer 0 l [] bs (plain 0))
          ∙ ap (wrapped ls bs) (ap (step_tree bs) (sym c.in-Goes.is) ∙ c.in_ok-redex.ensures.tree bs)
          ∙ c.loop-layers.invariant.1 bs,
      λ k n f. subst (Fit k n) (sym more) (plain_fits k n l ls (plain n) (c.loop-layers.invariant.2 k n f)),
      λ bs. ap (λ xs. outer xs bs) more ∙ plain_outer 0 l ls bs (plain 0) ∙ c.loop-layers.invariant.3 bs,
    )
