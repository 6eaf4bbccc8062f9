use Rattle.std.proofs.Common.{length}
use Rattle.edb_leaves.proofs.leaves.leaf_plan.Goals as goal

pub returns-in-Text-clause-suits : goal.returns-in-Text-clause-suits
returns-in-Text-clause-suits c = c.make_text.ensures.suits (length c.args.here.now.variables.pairs)

pub returns-in-Unbegun-clause-suits : goal.returns-in-Unbegun-clause-suits
returns-in-Unbegun-clause-suits c = c.begin.ensures.suits (length c.args.here.now.variables.pairs)

pub returns-in-Making-clause-suits : goal.returns-in-Making-clause-suits
returns-in-Making-clause-suits c = c.make_fun.ensures.suits (length c.args.here.now.variables.pairs)

pub returns-in-MakingLocal-clause-suits : goal.returns-in-MakingLocal-clause-suits
returns-in-MakingLocal-clause-suits c = c.make_local.ensures.suits (length c.args.here.now.variables.pairs)

pub returns-in-MakingRemote-clause-suits : goal.returns-in-MakingRemote-clause-suits
returns-in-MakingRemote-clause-suits c = c.make_remote.ensures.suits (length c.args.here.now.variables.pairs)

pub returns-in-Failed-clause-suits : goal.returns-in-Failed-clause-suits
returns-in-Failed-clause-suits c = c.begin_after.ensures.suits (length c.args.here.now.variables.pairs)

pub returns-in-Collecting-clause-suits : goal.returns-in-Collecting-clause-suits
returns-in-Collecting-clause-suits c = c.collect.ensures.suits (length c.args.here.now.variables.pairs)
