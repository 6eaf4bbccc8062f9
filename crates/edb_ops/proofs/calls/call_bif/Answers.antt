use Rattle.std.proofs.Common.{length, arith}
use Rattle.edb_ops.proofs.Arities.{at_most_four}
use Rattle.edb_ops.proofs.calls.call_bif.Goals as goal

pub unreachable-requires : goal.unreachable-requires
unreachable-requires c =
    let few = at_most_four (length c.args.args.now) c.args.index c.requires.below c.requires.arity in
    grind arith
