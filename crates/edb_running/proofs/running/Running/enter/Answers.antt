use Rattle.std.proofs.Common.{◌≡◌, ◌∷◌, ◌+◌, ◌≤◌, length, ap, sym, subst, ◌∙◌, arith, ℕ, suc}
use Rattle.std.proofs.lemmas.List.{length-map}
use Rattle.edb_moves.specs.Running.{leaf, unbegun}
use Rattle.edb_moves.specs.Going.{turns}
use Rattle.edb_stack.specs.Trees.{plug}
use Rattle.edb_stack.specs.Bodies.{modules_of}
use Rattle.edb_stack.specs.Views.{info_of, layer_of, layers_of}
use Rattle.edb_stack.specs.Paths.{IsFilled, RedexBelow}
use Rattle.edb_stack.specs.declared.redex.Redex.TheVariants as redex
use Rattle.edb_stack.specs.declared.layer.Layer.TheVariants as layers
use Rattle.edb_stack.proofs.OpenLayers.{all_open}
use Rattle.edb_running.specs.Standing.{layers_in, info_in, pairs_in}
use Rattle.edb_running.proofs.SoundLaws.{holds_by, more_bodies, few_bodies}
use Rattle.edb_running.proofs.CommitLaws.{tree_by, entered}
use Rattle.edb_running.proofs.running.Running.enter.Goals as goal

pub overflow_add-self : goal.overflow_add-self
overflow_add-self c =
    let h : length c.push.new.self.0 ≡ length c.args.self.now.layers.0 + 1 = ap length c.push.ensures.items ∙ omega arith in
    let few : length (modules_of (layers_in c.args.self.now) (info_in c.args.self.now)) ≤ length (layers_in c.args.self.now) + 1 = few_bodies (layers_in c.args.self.now) (info_in c.args.self.now) in
    let same : length (layers_in c.args.self.now) ≡ length c.args.self.now.layers.0 = length-map c.args.self.now.layers.0 layer_of in
    omega (arith, h, few, same, c.requires.holds.depth, c.len-count.ensures.count, c.len-count.ensures.small)

layers_now : (c : goal.After-focus) → c.focus.new.self.layers.0 ≡ layers.Body c.args.self.now.here ∷ c.args.self.now.layers.0
layers_now c = ap (λ r. r.layers.0) c.focus.ensures ∙ c.push.ensures.items ∙ ap (λ b. layers.Body b ∷ c.args.self.now.layers.0) c.replace-outer.ensures.value

here_now : (c : goal.After-focus) → c.focus.new.self.here ≡ c.args.body
here_now c = ap (λ r. r.here) c.focus.ensures ∙ c.replace-outer.ensures.after

pub returns-clause-effect : goal.returns-clause-effect
returns-clause-effect c = λ p v.
    ap (turns p.bindings) (tree_by c.focus.new.self (layers_of (layers.Body c.args.self.now.here ∷ c.args.self.now.layers.0)) (info_of c.args.body) (redex.Leaf c.unbegun.result) (ap layers_of (layers_now c)) (ap info_of (here_now c)) (ap (λ r. r.redex) c.focus.ensures))
    ∙ ap (λ l. turns p.bindings (plug (layers_of (layers.Body c.args.self.now.here ∷ c.args.self.now.layers.0)) (info_of c.args.body) (leaf l))) c.unbegun.ensures
    ∙ entered p (layers_in c.args.self.now) (info_in c.args.self.now) (info_of c.args.body) (leaf (unbegun c.args.sequence.now)) (all_open c.args.self.now.layers.0)

pub returns-clause-sound : goal.returns-clause-sound
returns-clause-sound c = record {
  holds = holds_by c.focus.new.self (layers_of (layers.Body c.args.self.now.here ∷ c.args.self.now.layers.0)) (info_of c.args.body) (ap layers_of (layers_now c)) (ap info_of (here_now c)) c.requires.holds.marked
      (ap (λ r. r.bodies) c.focus.ensures ∙ one_more c.args.self.now.bodies (length (modules_of (layers_in c.args.self.now) (info_in c.args.self.now))) c.requires.holds.depth ∙ sym (more_bodies c.args.self.now.here c.args.self.now.layers.0 (info_of c.args.body)));
  below = subst (RedexBelow (length (pairs_in c.focus.new.self))) (sym (ap (λ r. r.redex) c.focus.ensures)) tt;
  filled = subst (IsFilled (layers_in c.focus.new.self)) (sym (ap (λ r. r.redex) c.focus.ensures)) tt;
}
  where
    one_more : (m n : ℕ) → m ≡ n → m + 1 ≡ suc n
    one_more m n e = omega (arith, e)
