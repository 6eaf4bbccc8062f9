use Rattle.std.proofs.Common.{◌≡◌, ◌∷◌, ◌++◌, [], map, ap, sym, subst, ◌∙◌}
use Rattle.edb_syntax.specs.Syntax.{exps_of}
use Rattle.edb_moves.specs.Running.{node, all_running}
use Rattle.edb_stack.specs.Trees.{before}
use Rattle.edb_stack.specs.Marks.{AllBelow}
use Rattle.edb_stack.specs.Views.{item_of, doing_of}
use Rattle.edb_stack.proofs.FeedLaws.{before_last, below_last}
use Rattle.edb_stack.proofs.operands.Operands.fill.Goals as goal

-- the operands with one more
items : (c : goal.After-advance) → c.push_reserved.new.self.items ≡ c.args.self.1 ++ c.args.item ∷ []
items c = let e : c.self.inside.done.items ≡ c.args.self.1 = ap (λ o. o.1) c.self.view_is in c.push_reserved.ensures.items ∙ ap (λ xs. xs ++ c.args.item ∷ []) e

pub returns-clause-tree : goal.returns-clause-tree
returns-clause-tree c = λ bs.
    c.advance.ensures.tree bs
    ∙ ap (λ xs. node (doing_of c.self.inside.doing) (before bs (map item_of xs) (all_running (exps_of c.self.inside.pending.now)))) c.push_reserved.ensures.items
    ∙ ap (λ o. node (doing_of o.0) (before bs (map item_of (o.1 ++ c.args.item ∷ [])) (all_running (exps_of o.2)))) c.self.view_is
    ∙ ap (node (doing_of c.args.self.0)) (before_last bs c.args.self.1 c.args.item (all_running (exps_of c.args.self.2)))

pub returns-clause-below : goal.returns-clause-below
returns-clause-below c = λ n b d. c.advance.ensures.below n (subst (λ xs. AllBelow n (map item_of xs)) (sym (items c)) (below_last n c.args.self.1 c.args.item b d))
