use Rattle.std.proofs.Common.{rules, ◌≡◌, ◌≢◌, [], length, arith}
use Rattle.edb_small.specs.Descent.{all_left, function_at}
use Rattle.edb_small.proofs.Turns.{functions_first, comes_end_at, comes_fail, comes_turn, all_of_none, all_of_some, empty_of}
use Rattle.edb_small.proofs.functions.functions.Goals as goal

pub loop-rest-init : goal.loop-rest-init
loop-rest-init c = functions_first _ c.args.tokens.now (search rules)

pub returns-in_default : goal.returns-in_default
returns-in_default c =
    let some : c.loop-rest.rest.now ≢ [] = search rules in
    comes_fail all_left function_at _ _ _ c.loop-rest.invariant c.loop-rest.rest.now
    (all_of_some c.loop-rest.rest.now some) (rw c.in_default.is at c.in_ok-next.ensures.finds)

pub loop-rest-preserved : goal.loop-rest-preserved
loop-rest-preserved c =
    let some : c.loop-rest.rest.now ≢ [] = search rules in
    let shorter = rw c.in-Some.is at c.in_ok-next.ensures.shorter in
    comes_turn all_left function_at _ _ _ c.loop-rest.invariant c.loop-rest.rest.now c.in-Some.next c.in-Some.end.now _
    (all_of_some c.loop-rest.rest.now some) (rw c.in-Some.is at c.in_ok-next.ensures.finds) shorter c.in_ok-push.ensures.items

pub returns : goal.returns
returns c =
    let empty : length c.loop-rest.rest.now ≡ 0 = grind arith in
    let none = empty_of c.loop-rest.rest.now empty in
    comes_end_at all_left function_at _ _ _ c.loop-rest.invariant (all_of_none c.loop-rest.rest.now none) none
