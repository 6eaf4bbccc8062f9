use Rattle.std.proofs.Common.{◌≡◌, ◌∷◌, ◌++◌, length, refl, ap, sym, subst, ◌∙◌, Some}
use Rattle.edb_moves.specs.Running.{running}
use Rattle.edb_moves.specs.Going.{turns}
use Rattle.edb_stack.specs.Trees.{plug}
use Rattle.edb_stack.specs.Bodies.{modules_of}
use Rattle.edb_stack.specs.Views.{info_of}
use Rattle.edb_stack.specs.Redexes.{value_in, redex_tree}
use Rattle.edb_stack.specs.Paths.{path_layers}
use Rattle.edb_stack.specs.declared.redex.Redex.TheVariants as redex
use Rattle.edb_stack.proofs.OpenLayers.{all_open}
use Rattle.edb_running.specs.Standing.{layers_in, info_in, pairs_in, tree_in}
use Rattle.edb_running.specs.Rising.{Serves, IsNext}
use Rattle.edb_running.proofs.RiseLaws.{fed, fed_on}
use Rattle.edb_lang.specs.Pairs.{Pairs}
use Rattle.edb_stack.specs.Marks.{Marked}
use Rattle.edb_stack.specs.Feeding.{operands_layer, first_open}
use Rattle.edb_running.proofs.SoundLaws.{sound_led}
use Rattle.edb_running.proofs.DepthLaws.{modules_on}
use Rattle.edb_running.proofs.running.Running.feed.Goals as goal

pub returns-in-Full-clause-tree : goal.returns-in-Full-clause-tree
returns-in-Full-clause-tree c = λ p.
    ap (λ r. turns p.bindings (tree_in r)) c.focus.ensures
    ∙ fed p c.args.operands (layers_in c.args.self.now) (info_in c.args.self.now) (value_in (pairs_in c.args.self.now) c.args.item) (redex_tree (pairs_in c.args.self.now) (redex.Apply c.in-Full.doing c.in-Full.row)) (all_open c.args.self.now.layers.0)
    (c.in-Full.ensures.tree (pairs_in c.args.self.now)) refl

-- the way that is there
way : (c : goal.After-go_down) → Serves c.in-Hole.field-1.now c.in-Some.path
way c = subst (IsNext (Some c.in-Some.path)) (sym c.in-Hole.ensures.code) (subst (λ n. IsNext n (first_open c.args.operands.2)) c.in-Some.is c.requires.next)

pub returns-in-Some-clause-tree : goal.returns-in-Some-clause-tree
returns-in-Some-clause-tree c = λ p.
    let w : Serves c.in-Hole.field-1.now c.in-Some.path = way c in
    let bs : Pairs = pairs_in c.args.self.now in
    ap (λ ls. turns p.bindings (plug ls (info_in c.go_down.new.self) (redex_tree (pairs_in c.go_down.new.self) c.go_down.new.self.redex))) c.go_down.ensures.layers
    ∙ ap (λ b. turns p.bindings (plug (path_layers c.in-Some.path ++ (operands_layer c.in-Hole.operands ∷ layers_in c.args.self.now)) (info_of b) (redex_tree b.variables.pairs c.go_down.new.self.redex))) c.go_down.ensures.here
    ∙ ap (λ r. turns p.bindings (plug (path_layers c.in-Some.path ++ (operands_layer c.in-Hole.operands ∷ layers_in c.args.self.now)) (info_in c.args.self.now) (redex_tree bs r))) c.go_down.ensures.redex
    ∙ fed_on p c.args.operands c.in-Hole.operands (path_layers c.in-Some.path) (layers_in c.args.self.now) (info_in c.args.self.now) (value_in bs c.args.item) (redex_tree bs c.in-Some.path.redex) (running c.in-Hole.field-1.now) (all_open c.args.self.now.layers.0)
    (c.in-Hole.ensures.tree bs) (w.leads (length bs)).fit.within (w.outer bs) (w.tree bs)

pub returns-in-Some-clause-sound : goal.returns-in-Some-clause-sound
returns-in-Some-clause-sound c =
    let w : Serves c.in-Hole.field-1.now c.in-Some.path = way c in
    let same : length (pairs_in c.args.self.now) ≡ length (pairs_in c.go_down.new.self) = ap (λ b. length b.variables.pairs) (sym c.go_down.ensures.here) in
    sound_led c.go_down.new.self c.in-Some.path (operands_layer c.in-Hole.operands ∷ layers_in c.args.self.now) (length (pairs_in c.go_down.new.self)) c.go_down.ensures.layers c.go_down.ensures.redex (w.leads (length (pairs_in c.go_down.new.self)))
    (subst (Marked (operands_layer c.in-Hole.operands ∷ layers_in c.args.self.now)) same (c.in-Hole.ensures.below (length (pairs_in c.args.self.now)) c.requires.marked.0 c.requires.item, c.requires.marked.1))
    (c.go_down.ensures.bodies ∙ c.requires.depth ∙ ap (λ b. length (modules_of (layers_in c.args.self.now) (info_of b))) (sym c.go_down.ensures.here) ∙ ap length (modules_on c.in-Hole.operands (layers_in c.args.self.now) (info_in c.go_down.new.self)))
