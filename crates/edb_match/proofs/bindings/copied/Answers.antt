use Rattle.std.proofs.Common.{rules, ◌+◌, refl, arith}
use Rattle.edb_match.proofs.Lists.{newest_first-push, with_lent-take}
use Rattle.edb_match.proofs.bindings.copied.Goals as goal

pub loop-pair-preserved : goal.loop-pair-preserved
loop-pair-preserved c = λ bs.
    let next = with_lent-take c.args.lent.now bs c.loop-pair.pair-index (c.loop-pair.pair-index + 1) c.pair-item.result refl (omega arith) c.pair-item.is in
    let old = c.loop-pair.invariant bs in
    search (rules, newest_first-push, next, old)
