use Rattle.std.proofs.Common.{rules, ◌≡◌, ◌∷◌, ◌++◌, [], true, is_some, length, map, ap, sym, subst, ◌∙◌, arith}
use Rattle.edb_syntax.specs.Syntax.{exps_of}
use Rattle.edb_moves.specs.Running.{more, value_of, running, all_running}
use Rattle.edb_stack.specs.Trees.{before}
use Rattle.edb_stack.specs.Marks.{AllBelow}
use Rattle.edb_stack.specs.Views.{item_of}
use Rattle.edb_stack.specs.Feeding.{first_open}
use Rattle.edb_stack.specs.declared.item.Item.TheVariants as item
use Rattle.edb_stack.proofs.FeedLaws.{before_last, below_last, literal_runs, literal_passed}
use Rattle.edb_stack.proofs.operands.advance.Goals as goal

pub loop-operand-preserved : goal.loop-operand-preserved
loop-operand-preserved c =
    let split : c.loop-operand.rest.now ≡ c.in-Some.operand.now ∷ c.in-Some.behind.now = search rules in
    let is : true ≡ is_some (value_of (running c.in-Some.operand.now)) = search rules in
    let items : c.push_reserved.new.self.items ≡ c.loop-operand.done.items ++ item.Literal c.in-Some.operand ∷ [] = search rules in (
      omega (arith, c.push_reserved.ensures.len, c.push_reserved.ensures.capacity, c.loop-operand.invariant.0, ap length split),
      λ bs.
          ap (λ xs. before bs (map item_of xs) (all_running (exps_of c.in-Some.behind.now))) items
          ∙ before_last bs c.loop-operand.done.items (item.Literal c.in-Some.operand) (all_running (exps_of c.in-Some.behind.now))
          ∙ ap (λ t. before bs (map item_of c.loop-operand.done.items) (more t (all_running (exps_of c.in-Some.behind.now)))) (sym (literal_runs c.in-Some.operand.now is))
          ∙ ap (λ es. before bs (map item_of c.loop-operand.done.items) (all_running (exps_of es))) (sym split)
          ∙ c.loop-operand.invariant.1 bs,
      sym (literal_passed c.in-Some.operand.now (value_of (running c.in-Some.operand.now)) (first_open c.in-Some.behind.now) is) ∙ ap first_open (sym split) ∙ c.loop-operand.invariant.2,
      λ n b. subst (λ xs. AllBelow n (map item_of xs)) (sym items) (below_last n c.loop-operand.done.items (item.Literal c.in-Some.operand) (c.loop-operand.invariant.3 n b) tt),
    )
