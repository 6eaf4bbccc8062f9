use Rattle.edb_rules.proofs.OneRun.{runs_agree, outputs_agree}
use Rattle.edb_rules.proofs.laws.plain_runs_agree.Goals as goal

pub returns : goal.returns
returns c = record { runs = runs_agree; outputs = outputs_agree }
