use Rattle.edb_rules.proofs.Refused.{refused_is, refusal_told}
use Rattle.edb_rules.proofs.laws.refusals_are_told_by_entries.Goals as goal

pub returns : goal.returns
returns c = record { server = refused_is; entries = refusal_told }
