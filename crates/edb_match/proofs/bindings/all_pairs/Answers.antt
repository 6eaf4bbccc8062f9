use Rattle.std.proofs.Common.{◌-◌, arith, rules}
use Rattle.edb_match.proofs.Lists.{with_lent-take, pairs_of-push, pairs_of-append}
use Rattle.edb_match.proofs.bindings.all_pairs.Goals as goal

pub loop-end-preserved : goal.loop-end-preserved
loop-end-preserved c =
    let last = with_lent-take c.args.lent.now c.args.bindings.now (c.loop-end.end - 1) c.loop-end.end c.index-lent-end.result (omega arith) c.loop-end.invariant.within c.index-lent-end.is in
    record { within = omega arith; seen = search (rules, last, pairs_of-push) }

pub returns : goal.returns
returns c = search (rules, pairs_of-append)
