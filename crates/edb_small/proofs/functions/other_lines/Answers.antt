use Rattle.std.proofs.Common.{rules, ◌≡◌, [], arith}
use Rattle.edb_scan.specs.declared.lexeme.Mark.TheVariants as mark
use Rattle.edb_small.specs.Descent.{behind, line_at}
use Rattle.edb_small.proofs.Turns.{comes_first_at, comes_end, comes_fail, comes_turn}
use Rattle.edb_small.proofs.functions.other_lines.Goals as goal

pub loop-after-init : goal.loop-after-init
loop-after-init c =
    let items : c.new-lines.result.items ≡ [] = search rules in
    record { comes = comes_first_at line_at _ _ c.args.tokens.now items; within = omega arith }

pub returns-in_default-2-clause-finds : goal.returns-in_default-2-clause-finds
returns-in_default-2-clause-finds c =
    comes_fail (behind mark.Comma) line_at _ _ _ c.loop-after.invariant.comes c.in-Some.after.now
    c.in-Some.ensures.finds (rw c.in_default-2.is at c.in_ok-next.ensures.finds)

pub loop-after-preserved : goal.loop-after-preserved
loop-after-preserved c =
    let shorter = rw c.in-Some-2.is at c.in_ok-next.ensures.shorter in
    record {
      comes = comes_turn (behind mark.Comma) line_at _ _ _ c.loop-after.invariant.comes c.in-Some.after.now c.in-Some-2.next c.in-Some-2.end.now _
          c.in-Some.ensures.finds (rw c.in-Some-2.is at c.in_ok-next.ensures.finds) (omega (arith, c.in-Some.ensures.shorter, shorter)) c.in_ok-push.ensures.items;
      within = omega (arith, c.in-Some.ensures.shorter, shorter);
    }

pub returns-clause-finds : goal.returns-clause-finds
returns-clause-finds c = comes_end (behind mark.Comma) line_at _ _ _ c.loop-after.invariant.comes c.in_default.ensures.finds
