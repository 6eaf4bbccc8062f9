use Rattle.edb_verdict.proofs.TreeBounds.{accepted_trees_bounded}
use Rattle.edb_verdict.proofs.laws.trees_are_bounded.Goals as goal

pub returns : goal.returns
returns c = accepted_trees_bounded
