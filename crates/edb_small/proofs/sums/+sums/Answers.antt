use Rattle.std.proofs.Common.{rules, ◌≡◌, [], ◌∷◌, arith}
use Rattle.edb_scan.specs.declared.lexeme.Mark.TheVariants as mark
use Rattle.edb_small.specs.Descent.{behind, sum_at}
use Rattle.edb_small.proofs.Turns.{comes_first_at, comes_end, comes_fail, comes_turn}
use Rattle.edb_small.proofs.Levels.{no_levels, some_levels}
use Rattle.edb_small.proofs.sums.+sums.Goals as goal

pub other_arguments-loop-after-init : goal.other_arguments-loop-after-init
other_arguments-loop-after-init t c =
    let items : c.push.new.self.items ≡ c.args.first ∷ [] = search rules in
    record { comes = comes_first_at (sum_at c.args.levels) _ _ c.args.tokens.now items; within = omega arith }

pub other_arguments-returns-in_default-2-clause-finds :
    goal.other_arguments-returns-in_default-2-clause-finds
other_arguments-returns-in_default-2-clause-finds t c =
    comes_fail (behind mark.Comma) (sum_at c.args.levels) _ _ _ c.loop-after.invariant.comes c.in-Some.after.now
    c.in-Some.ensures.finds (rw c.in_default-2.is at c.in_ok-arg.ensures.finds)

pub other_arguments-loop-after-preserved : goal.other_arguments-loop-after-preserved
other_arguments-loop-after-preserved t c =
    let shorter = rw c.in-Some-2.is at c.in_ok-arg.ensures.shorter in
    record {
      comes = comes_turn (behind mark.Comma) (sum_at c.args.levels) _ _ _ c.loop-after.invariant.comes c.in-Some.after.now c.in-Some-2.arg c.in-Some-2.end.now _
          c.in-Some.ensures.finds (rw c.in-Some-2.is at c.in_ok-arg.ensures.finds) (omega (arith, c.in-Some.ensures.shorter, shorter)) c.in_ok-push-2.ensures.items;
      within = omega (arith, c.in-Some.ensures.shorter, shorter);
    }

pub other_arguments-returns-clause-finds : goal.other_arguments-returns-clause-finds
other_arguments-returns-clause-finds t c =
    comes_end (behind mark.Comma) (sum_at c.args.levels) _ _ _ c.loop-after.invariant.comes c.in_default.ensures.finds

pub sum-returns-then-levels-eq0-clause-finds : goal.sum-returns-then-levels-eq0-clause-finds
sum-returns-then-levels-eq0-clause-finds t c = no_levels c.args.levels c.args.tokens.now (omega arith)

pub sum-returns-clause-finds : goal.sum-returns-clause-finds
sum-returns-clause-finds t c = rw (some_levels c.args.levels c.args.tokens.now (omega arith)) c.sum_within.ensures.finds
