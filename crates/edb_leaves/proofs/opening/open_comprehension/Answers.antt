use Rattle.std.proofs.Common.{length, arith}
use Rattle.edb_leaves.proofs.Leading.{none_new, pushed, no_layers, scoped}
use Rattle.edb_leaves.proofs.opening.open_comprehension.Goals as goal

pub returns-clause-suits : goal.returns-clause-suits
returns-clause-suits c =
    let n = length c.args.variables.now.pairs in
    let fit = scoped n n c.len.result _ c.len.ensures (omega arith) (no_layers n c.new-layers.result.items c.new-layers.ensures.items) in
    none_new n c.new.result.items c.in_ok-path.path c.new.ensures.items (c.in_ok-path.ensures.leads n n (pushed n n c.new-layers.result.items c.push.new.self.items _ c.in_ok-push.ensures.items fit))
