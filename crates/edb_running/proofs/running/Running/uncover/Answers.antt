use Rattle.std.proofs.Common.{◌≡◌, true, ◌∷◌, length, refl, ap, sym, subst, ◌∙◌, List}
use Rattle.edb_stack.specs.Trees.{outward}
use Rattle.edb_stack.specs.Marks.{Marked}
use Rattle.edb_stack.specs.Bodies.{modules_of}
use Rattle.edb_stack.specs.Views.{layer_of, layers_of}
use Rattle.edb_stack.specs.Paths.{waits, IsFilled}
use Rattle.edb_stack.specs.declared.redex.Redex.TheVariants as redex
use Rattle.edb_stack.specs.declared.layer.Layer.{Layer}
use Rattle.edb_stack.specs.declared.layer.Layer.TheVariants as layers
use Rattle.edb_running.specs.Standing.{layers_in, info_in, pairs_in, Holds}
use Rattle.edb_running.specs.declared.running.Running.{Running}
use Rattle.edb_running.proofs.SoundLaws.{holds_by, marked_behind, depth_behind, outward_same}
use Rattle.edb_stack.specs.declared.item.Item.{Item}
use Rattle.edb_running.proofs.running.Running.uncover.Goals as goal

-- what holds once the innermost layer went, by that layer
behind : (r s : Running) (l : Layer) (ls : List Layer) (x : Item) → Holds r → IsFilled (layers_in r) (redex.Value x) → r.layers.0 ≡ l ∷ ls → s.layers.0 ≡ ls → s.bodies ≡ r.bodies
    → ((waits (layer_of l) ≡ true) → info_in s ≡ outward (layer_of l) (info_in r)) → Holds s
behind r s l ls x h f e g b k =
    let w : waits (layer_of l) ≡ true = subst (λ xs. IsFilled (layers_of xs) (redex.Value x)) e f in
    holds_by s (layers_of ls) (outward (layer_of l) (info_in r)) (ap layers_of g) (k w)
    (marked_behind (layer_of l) (layers_of ls) (info_in r) w (subst (λ xs. Marked (layers_of xs) (length (pairs_in r))) e h.marked))
    (b ∙ h.depth ∙ ap (λ xs. length (modules_of (layers_of xs) (info_in r))) e ∙ ap length (depth_behind (layer_of l) (layers_of ls) (info_in r) w))

pub returns-clause-holds : goal.returns-clause-holds
returns-clause-holds c =
    behind c.args.self.now (record c.args.self.now { layers = c.pop.new.self }) c.in-Some.layer c.pop.new.self.0 c.args.item c.requires.holds c.requires.filled c.in-Some.ensures.items refl refl
    (λ w. sym (outward_same c.in-Some.layer (info_in c.args.self.now) c.in_default-layer.not-Scope w))

pub returns-in-Scope-clause-holds : goal.returns-in-Scope-clause-holds
returns-in-Scope-clause-holds c =
    behind c.args.self.now c.cut.new.self (layers.Scope c.in-Scope.mark) c.pop.new.self.0 c.args.item c.requires.holds c.requires.filled (c.in-Some.ensures.items ∙ ap (λ l. l ∷ c.pop.new.self.0) c.in-Scope.is)
    (ap (λ s. s.0) c.cut.ensures.layers) c.cut.ensures.bodies (λ w. c.cut.ensures.info)
