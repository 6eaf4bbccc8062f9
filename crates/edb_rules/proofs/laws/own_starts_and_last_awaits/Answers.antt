use Rattle.edb_rules.proofs.Own.{own_is, last_is}
use Rattle.edb_rules.proofs.laws.own_starts_and_last_awaits.Goals as goal

pub returns : goal.returns
returns c = record { own = own_is; last = last_is }
