use Rattle.std.proofs.Common.{rules, ◌≡◌, ◌∷◌, [], ◌++◌, IfOk, reverse, ap, sym, subst, ◌∙◌}
use Rattle.edb_moves.specs.Running.{running}
use Rattle.edb_stack.specs.Paths.{outer, wrapped, path_layers, path_tree, Fit}
use Rattle.edb_stack.specs.Views.{layer_of, layers_of}
use Rattle.edb_path.proofs.StepLaws.{one_more}
use Rattle.edb_path.proofs.path.within.Goals as goal

-- the layers with one more
more : (c : goal.After-under) → layers_of (reverse c.push.new.self.items) ≡ layer_of c.args.layer ∷ layers_of (reverse c.args.layers.items)
more c =
    let items : c.push.new.self.items ≡ c.args.layers.items ++ c.args.layer ∷ [] = search rules in
    ap (λ xs. layers_of (reverse xs)) items ∙ one_more c.args.layers.items c.args.layer

pub returns-clause-tree : goal.returns-clause-tree
returns-clause-tree c = λ bs. subst (λ xs. IfOk c.under.result (λ path. path_tree bs path ≡ wrapped xs bs (running c.args.code.now))) (more c) (c.under.ensures.tree bs)

pub returns-clause-leads : goal.returns-clause-leads
returns-clause-leads c = λ k n f. c.under.ensures.leads k n (subst (Fit k n) (sym (more c)) f)

pub returns-clause-outer : goal.returns-clause-outer
returns-clause-outer c = λ bs. subst (λ xs. IfOk c.under.result (λ path. outer (path_layers path) bs ≡ outer xs bs)) (more c) (c.under.ensures.outer bs)
