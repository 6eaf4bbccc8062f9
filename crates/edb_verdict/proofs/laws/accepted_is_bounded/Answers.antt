use Rattle.edb_verdict.proofs.Bounds.{accepted_bounded}
use Rattle.edb_verdict.proofs.laws.accepted_is_bounded.Goals as goal

pub returns : goal.returns
returns c = accepted_bounded
