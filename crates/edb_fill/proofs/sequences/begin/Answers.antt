use Rattle.edb_leaves.proofs.Leading.{none_new, no_layers}
use Rattle.edb_fill.proofs.sequences.begin.Goals as goal

pub returns-clause-suits : goal.returns-clause-suits
returns-clause-suits c = λ n.
    none_new n c.new.result.items _ c.new.ensures.items (record { fit = no_layers n c.new-layers.result.items c.new-layers.ensures.items; below = tt; filled = tt })
