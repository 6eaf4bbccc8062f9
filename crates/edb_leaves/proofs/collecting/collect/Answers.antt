use Rattle.std.proofs.Common.{◌++◌, ◌∷◌, [], ap, sym, subst, ◌∙◌}
use Rattle.edb_moves.specs.Going.{turns}
use Rattle.edb_moves.specs.Running.{node, running, all_running}
use Rattle.edb_stack.specs.Feeding.{fed_tree, FedBelow, operands_layer}
use Rattle.edb_stack.specs.Paths.{outer, wrapped}
use Rattle.edb_stack.specs.Redexes.{redex_tree}
use Rattle.edb_stack.specs.Views.{doing_of}
use Rattle.edb_stack.specs.declared.doing.Doing.TheVariants as doing
use Rattle.edb_stack.specs.declared.redex.Redex.TheVariants.{Apply}
use Rattle.edb_stack.proofs.Fits.{fit_operands}
use Rattle.edb_syntax.specs.Syntax.{exps_of}
use Rattle.edb_variables.specs.PairStacks.{newest_first}
use Rattle.edb_leaves.proofs.Leading.{bare_turns, path_turns, none_new, no_layers, pushed, one_pushed}
use Rattle.edb_leaves.proofs.collecting.collect.Goals as goal

pub returns-in-Full-clause-effect : goal.returns-in-Full-clause-effect
returns-in-Full-clause-effect c = λ p v.
    let whole = sym (ap (fed_tree p.bindings) c.in-Full.is) ∙ c.in_ok-doing.ensures.tree p.bindings ∙ ap (λ es. node (doing_of doing.List) (all_running (exps_of es))) c.from_ref.ensures.value in
    bare_turns p v c.new.result (record { layers = c.new-layers.result; redex = Apply c.in-Full.doing c.in-Full.items }) c.new-layers.ensures.items
    ∙ ap (λ ns. turns (newest_first ns ++ p.bindings) (redex_tree (newest_first ns ++ p.bindings) (Apply c.in-Full.doing c.in-Full.items))) c.new.ensures.items
    ∙ ap (turns p.bindings) whole

pub returns-in-Full-clause-suits : goal.returns-in-Full-clause-suits
returns-in-Full-clause-suits c = λ n.
    none_new n c.new.result.items _ c.new.ensures.items (record { fit = no_layers n c.new-layers.result.items c.new-layers.ensures.items; below = subst (FedBelow n) c.in-Full.is (c.in_ok-doing.ensures.below n); filled = tt })

pub returns-in_ok-path-in-Hole-clause-effect : goal.returns-in_ok-path-in-Hole-clause-effect
returns-in_ok-path-in-Hole-clause-effect c = λ p v.
    let whole = sym (ap (fed_tree p.bindings) c.in-Hole.is) ∙ c.in_ok-doing.ensures.tree p.bindings ∙ ap (λ es. node (doing_of doing.List) (all_running (exps_of es))) c.from_ref.ensures.value in
    let one = one_pushed c.new-layers.result.items c.push.new.self.items _ c.new-layers.ensures.items c.in_ok-push-in-Hole.ensures.items in
    path_turns p v c.new-in-Hole.result c.in_ok-path-in-Hole.path (operands_layer c.in-Hole.operands ∷ []) (running c.in-Hole.operand.now) c.new-in-Hole.ensures.items
    (λ bs. c.in_ok-path-in-Hole.ensures.tree bs ∙ ap (λ ls. wrapped ls bs (running c.in-Hole.operand.now)) one)
    (λ bs. c.in_ok-path-in-Hole.ensures.outer bs ∙ ap (λ ls. outer ls bs) one)
    ∙ ap (turns p.bindings) whole

pub returns-in_ok-path-in-Hole-clause-suits : goal.returns-in_ok-path-in-Hole-clause-suits
returns-in_ok-path-in-Hole-clause-suits c = λ n.
    let fit = fit_operands n n _ _ _ _ (subst (FedBelow n) c.in-Hole.is (c.in_ok-doing.ensures.below n)) (no_layers n c.new-layers.result.items c.new-layers.ensures.items) in
    none_new n c.new-in-Hole.result.items c.in_ok-path-in-Hole.path c.new-in-Hole.ensures.items (c.in_ok-path-in-Hole.ensures.leads n n (pushed n n c.new-layers.result.items c.push.new.self.items _ c.in_ok-push-in-Hole.ensures.items fit))
