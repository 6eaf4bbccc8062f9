use Rattle.std.proofs.Common.{◌≡◌, length, ap, sym, subst, ◌∙◌, List}
use Rattle.edb_moves.specs.Running.{leaf, unbegun}
use Rattle.edb_moves.specs.Going.{turns}
use Rattle.edb_stack.specs.Parts as parts
use Rattle.edb_stack.specs.Trees.{plug}
use Rattle.edb_stack.specs.Views.{info_of}
use Rattle.edb_stack.specs.Paths.{IsFilled, RedexBelow}
use Rattle.edb_stack.specs.declared.redex.Redex.TheVariants as redex
use Rattle.edb_stack.proofs.OpenLayers.{all_open}
use Rattle.edb_running.specs.Standing.{layers_in, info_in, pairs_in}
use Rattle.edb_running.proofs.SoundLaws.{holds_by}
use Rattle.edb_running.proofs.CommitLaws.{tree_by}
use Rattle.edb_running.specs.Outermost.{beyond}
use Rattle.edb_running.proofs.BeyondLaws.{left, marked_beyond, depth_beyond}
use Rattle.edb_running.proofs.running.Running.replace.Goals as goal

layers_now : (c : goal.After-focus) → layers_in c.focus.new.self ≡ beyond (layers_in c.args.self.now)
layers_now c = ap layers_in c.focus.ensures ∙ c.leave_all.ensures.layers

info_now : (c : goal.After-focus) → info_in c.focus.new.self ≡ info_of c.args.body
info_now c = ap info_in c.focus.ensures

pub returns-clause-effect : goal.returns-clause-effect
returns-clause-effect c = λ p v.
    let ls : List parts.Layer = layers_in c.args.self.now in
    ap (turns p.bindings) (tree_by c.focus.new.self (beyond ls) (info_of c.args.body) (redex.Leaf c.unbegun.result) (layers_now c) (info_now c) (ap (λ r. r.redex) c.focus.ensures))
    ∙ ap (λ l. turns p.bindings (plug (beyond ls) (info_of c.args.body) (leaf l))) c.unbegun.ensures
    ∙ sym (left p ls (info_in c.args.self.now) (info_of c.args.body) (leaf (unbegun c.args.sequence.now)) (all_open c.args.self.now.layers.0))

pub returns-clause-sound : goal.returns-clause-sound
returns-clause-sound c =
    let ls : List parts.Layer = layers_in c.args.self.now in
    record {
      holds = holds_by c.focus.new.self (beyond ls) (info_of c.args.body) (layers_now c) (info_now c) (marked_beyond ls (length (pairs_in c.args.self.now)) (length (info_of c.args.body).bindings) c.requires.holds.marked)
          (ap (λ r. r.bodies) c.focus.ensures ∙ c.leave_all.ensures.bodies ∙ c.requires.holds.depth ∙ depth_beyond ls (info_in c.args.self.now) (info_of c.args.body));
      below = subst (RedexBelow (length (pairs_in c.focus.new.self))) (sym (ap (λ r. r.redex) c.focus.ensures)) tt;
      filled = subst (IsFilled (layers_in c.focus.new.self)) (sym (ap (λ r. r.redex) c.focus.ensures)) tt;
    }
