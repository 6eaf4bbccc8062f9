use Rattle.edb_leaves.proofs.Leading.{none_new, no_layers}
use Rattle.edb_fill.proofs.choices.evaluate.Goals as goal

pub returns-clause-suits : goal.returns-clause-suits
returns-clause-suits c = λ n. none_new n c.new-2.result.items c.in_ok-path.path c.new-2.ensures.items (c.in_ok-path.ensures.leads n n (no_layers n c.new.result.items c.new.ensures.items))
