use Rattle.std.proofs.Common.{arith}
use Rattle.edb_variables.proofs.Stacks.{bind_next}
use Rattle.edb_variables.proofs.variables.bindings_by_name.Goals as goal

pub loop-place-preserved : goal.loop-place-preserved
loop-place-preserved c =
    let i = c.loop-place.invariant in
    let next = bind_next c.loop-place.place c.index-pairs-place.result c.args.pairs.now c.loop-place.bindings c.bind_older.new.bindings _ (omega (arith, c.loop-place-test.true)) i.0 c.index-pairs-place.is c.in_ok-bind_older.ensures i.1 i.2 in
    (omega (arith, i.0), next.0, next.1)
