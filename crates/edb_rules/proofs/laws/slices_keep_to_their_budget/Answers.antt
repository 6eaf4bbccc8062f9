use Rattle.edb_rules.proofs.Taken.{budget_kept}
use Rattle.edb_rules.proofs.laws.slices_keep_to_their_budget.Goals as goal

pub returns : goal.returns
returns c = budget_kept
